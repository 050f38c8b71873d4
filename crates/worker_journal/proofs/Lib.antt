-- Lemmas on files that a crash leaves.
pub mod EndLemmas
pub mod EntryLineLemmas
pub mod EscapeLemmas
mod HoldLemmas
mod Kept
pub mod LastLinesLemmas
pub mod LineLemmas
pub mod LineTextsLemmas
mod Moments
mod PartLemmas
pub mod RepairLemmas
mod TornLemmas
pub mod KnownIdsLemmas
