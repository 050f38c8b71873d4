mod AnswerLemmas
mod EntryLemmas
mod FormLemmas
pub mod OptionsLemmas
pub mod PlayLemmas
mod PrintLemmas
mod VectorsLemmas
