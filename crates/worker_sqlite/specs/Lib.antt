-- The definitions that the contracts use.
pub mod Form
pub mod Statements
pub mod Outbox
