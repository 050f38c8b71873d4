-- Lemmas on a group's state.
pub mod GroupStateLemmas
