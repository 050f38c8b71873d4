-- A failover: the server returns to a state that a replica has.
pub mod Lookup
pub mod World
pub mod Law
pub mod Many
