-- Lemmas on what is sent.
pub mod AskedLemmas
pub mod PortLemmas
pub mod ClusterLemmas
pub mod TopologyLemmas
