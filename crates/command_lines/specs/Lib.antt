-- The definitions for the contracts of this crate.
pub mod Numbers
pub mod WorkerSettings
pub mod Counts
pub mod Words
pub mod Said
