-- The proofs of this crate, by subject.
pub mod BothEndsLemmas
pub mod FailoverLemmas
pub mod FilesLemmas
pub mod LetterLemmas
pub mod LoopsLemmas
pub mod SystemLemmas
