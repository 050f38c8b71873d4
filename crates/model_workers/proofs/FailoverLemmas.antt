-- Proofs on a worker that checks its file and sends WAIT.
pub mod KeepsLemmas
pub mod Sample
pub mod Wrong
pub mod RoundLemmas
pub mod ScheduleLemmas
