-- Lemmas.
mod CellsLemmas
mod KeptLemmas
pub mod LivedLemmas
pub mod AcknowledgedLemmas
mod InMemoryLemmas
mod ForwardedLemmas
mod SendLemmas
pub mod RowTableLemmas
