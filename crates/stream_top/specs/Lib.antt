-- The definitions that the program's contracts use.
pub mod Options
pub mod Asked
pub mod Figures
pub mod Json
pub mod Measured
pub mod Metrics
pub mod Text
pub mod Shape
