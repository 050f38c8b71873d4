-- The definitions that the program's contracts use.
pub mod Columns
pub mod Form
pub mod Options
pub mod Forwards
pub mod Program
