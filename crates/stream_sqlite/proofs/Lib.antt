-- Lemmas.
mod ColumnsLemmas
mod FormLemmas
mod ForwardLemmas
mod LookLemmas
mod ProgramLemmas
mod SaidLemmas
