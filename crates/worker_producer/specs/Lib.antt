-- The definitions that a producer's contracts use.
pub mod Records
pub mod Checked
pub mod Sentences
pub mod Errors
pub mod Executed
pub mod Replies
pub mod Unheard
pub mod Machine
pub mod Ahead
pub mod Filled
pub mod Learnt
pub mod Last
pub mod Step
pub mod Session
pub mod Confirmed
pub mod Schedule
pub mod Failover
