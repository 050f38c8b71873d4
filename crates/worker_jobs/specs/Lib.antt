-- The definitions that the contracts use.
pub mod LineOf
pub mod VerdictOf
pub mod Lines
pub mod Added
pub mod Noted
pub mod Steady
pub mod Talk
pub mod Tell
pub mod Acknowledged
