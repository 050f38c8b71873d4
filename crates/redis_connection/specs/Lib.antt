-- The definitions that the contracts of a connection use.
pub mod Cause
pub mod Early
pub mod Link
pub mod Seen
pub mod Passing
pub mod Ask
pub mod Wait
pub mod Usable
