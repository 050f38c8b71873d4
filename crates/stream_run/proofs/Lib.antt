-- Lemmas.
mod RoundsLemmas
mod GivenUpLemmas
mod ProgramLemmas
mod StatusLemmas
