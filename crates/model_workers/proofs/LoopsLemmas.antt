-- Lemmas on rounds, one after the other.
pub mod ShownLemmas
pub mod LivedLemmas
pub mod ScheduledLemmas
