pub mod BaseLemmas
pub mod DrainedLemmas
pub mod JsonLemmas
pub mod KeepLemmas
pub mod LinesLemmas
pub mod ProgramLemmas
pub mod ReaderLemmas
