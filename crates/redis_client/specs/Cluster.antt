-- What a client of Redis Cluster computes itself.
pub mod Crc
pub mod Division
pub mod Split
pub mod Slot
pub mod Tag
pub mod Sentence
pub mod ErrorMeaning
pub mod Step
pub mod Partition
