-- The definitions that the program's contracts use.
pub mod Options
pub mod Counts
pub mod Turn
pub mod Program
pub mod Line
pub mod Backlog
pub mod Known
pub mod There
pub mod Written
pub mod Lived
pub mod Filed
pub mod Tell
pub mod Resumed
pub mod Once
pub mod Failover
