-- Lemmas.
mod ValuesLemmas
mod FormLemmas
