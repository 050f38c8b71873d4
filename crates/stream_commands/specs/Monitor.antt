-- The definitions for the contract of a group's state.
pub mod GroupState
