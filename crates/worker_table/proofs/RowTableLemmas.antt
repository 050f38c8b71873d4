pub mod RowsLemmas
pub mod PutLemmas
pub mod PostsLemmas
pub mod SentLemmas
pub mod MemoryLemmas
pub mod OutboxLemmas
