-- Lemmas on numbers in words, and on the status of a program.
pub mod SaidLemmas
pub mod OutcomeLemmas
