-- The definitions that the program's contracts use.
pub mod Report
pub mod Options
pub mod Failures
pub mod Rounds
pub mod GivenUp
pub mod Program
