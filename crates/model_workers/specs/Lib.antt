-- The definitions of this crate, by subject.
pub mod BothEnds
pub mod Failover
pub mod Files
pub mod Letters
pub mod Loops
pub mod System
