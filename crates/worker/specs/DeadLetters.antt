-- The definitions that the contracts of a search for dead letters use.
pub mod Dead
pub mod Besides
