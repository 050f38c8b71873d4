-- Lemmas of the callers.
pub mod ServerLemmas
pub mod WireLemmas
