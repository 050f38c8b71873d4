-- The definitions that the program's contracts use.
pub mod Options
pub mod Base
pub mod Filled
pub mod Placed
pub mod JsonRecord
pub mod Drained
pub mod Taken
pub mod Program
