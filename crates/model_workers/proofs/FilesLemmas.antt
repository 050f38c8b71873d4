-- That each entry is in a file, whatever happens.
pub mod LineLemmas
pub mod Whole
pub mod HasLine
pub mod Step
pub mod Kept
pub mod OfLog
pub mod Started
pub mod BoundLemmas
pub mod Sample
pub mod Wrong
