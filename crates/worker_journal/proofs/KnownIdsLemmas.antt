-- Lemmas on known ids, and on the lines of a file.
pub mod KnownLemmas
pub mod FileLemmas
pub mod NumberLemmas
