pub mod CallLemmas
mod GroupLemmas
pub mod Sentences
pub mod UniqueDecoding
