-- The definitions of this crate, by subject.
pub mod Failover
pub mod Group
pub mod Once
pub mod Rounds
