-- The definitions that the contracts of a confirmed round use.
pub mod Confirmed
