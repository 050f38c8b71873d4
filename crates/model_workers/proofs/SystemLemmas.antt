-- That each entry is in a file, whatever happens.
pub mod Served
pub mod Coupled
pub mod Logged
pub mod Sound
pub mod Kept
pub mod RoundLemmas
pub mod DeskLemmas
pub mod DrainedLemmas
pub mod OnceLemmas
pub mod AloneLemmas
pub mod Sample
pub mod OnceSample
pub mod Wrong
