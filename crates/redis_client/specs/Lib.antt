-- The definitions of a program that connects.
pub mod Cut
pub mod Parts
pub mod AddressMeaning
pub mod Asked
pub mod Said
pub mod Greeting
pub mod Backoff
pub mod Next
pub mod Timed
pub mod Cluster
pub mod Topology
