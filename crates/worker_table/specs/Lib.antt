-- The definitions that the contracts use.
pub mod Cells
pub mod Reasons
pub mod Kept
pub mod Lived
pub mod Acknowledged
pub mod InMemory
pub mod Forwarded
pub mod Passed
pub mod RowTable
