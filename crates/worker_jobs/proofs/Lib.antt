-- Lemmas.
mod TellLemmas
mod PipesLemmas
pub mod TalkLemmas
mod AcknowledgedLemmas
mod AddedLemmas
mod NotedLemmas
