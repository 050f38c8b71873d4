-- Lemmas on the bytes sent and received.
pub mod EarlyLemmas
pub mod WayLemmas
pub mod LinkLemmas
pub mod ReaderLemmas
pub mod AskLemmas
pub mod PassingLemmas
