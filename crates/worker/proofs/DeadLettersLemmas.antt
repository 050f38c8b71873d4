-- Lemmas on dead letters, and on commands between two rounds.
pub mod BesidesLemmas
pub mod DeadLemmas
