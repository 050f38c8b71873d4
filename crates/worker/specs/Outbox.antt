-- The definitions that the contracts of an outbox use.
pub mod Sent
pub mod Posts
