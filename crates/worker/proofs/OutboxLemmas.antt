-- Lemmas on an outbox.
pub mod SentLemmas
pub mod PostsLemmas
