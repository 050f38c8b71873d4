-- The proofs of this crate, by subject.
pub mod FailoverLemmas
pub mod GroupLemmas
pub mod OnceLemmas
pub mod RoundsLemmas
