pub mod Fields
pub mod NonEmpty
pub mod Read
pub mod Single
pub mod WholeCommands
pub mod Monitor
