-- Lemmas.
pub mod TokensLemmas
pub mod SameLemmas
