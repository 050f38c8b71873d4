-- That a failover loses nothing that was confirmed, and brings nothing twice.
pub mod Looked
pub mod Grows
pub mod Lines
pub mod Added
pub mod Distinct
pub mod Stays
pub mod Records
pub mod Safe
pub mod Undeleted
pub mod Many
mod Sample
mod SampleMany
mod Without
mod Wrong
