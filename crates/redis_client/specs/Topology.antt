pub mod Cause
pub mod Refusal
pub mod Topology
pub mod TopologyMeaning
