-- The definitions for the contracts of the callers.
pub mod Worker
pub mod Order
pub mod Producer
pub mod Stalled
pub mod Monitoring
pub mod Readme
pub mod Server
pub mod Wire
