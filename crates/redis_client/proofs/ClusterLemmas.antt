-- Lemmas on slots and errors.
pub mod DivisionLemmas
pub mod HeadLemmas
pub mod PlaceLemmas
pub mod SentenceLemmas
pub mod SplitLemmas
pub mod TagLemmas
