-- Lemmas on confirmed rounds.
pub mod ConfirmedLemmas
