-- Rounds of a worker without failures.
pub mod Page
pub mod Rounds
pub mod Bound
pub mod Law
