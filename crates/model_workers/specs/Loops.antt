-- The definitions for the contract of a loop of rounds.
pub mod Loop
pub mod Shown
pub mod Lived
pub mod Scheduled
