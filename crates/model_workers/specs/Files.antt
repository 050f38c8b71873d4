-- Workers of a group, each with a file of lines of its own.
pub mod Files
pub mod Law
pub mod Bound
