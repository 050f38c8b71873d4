pub mod AnswerLemmas
pub mod BelowLemmas
