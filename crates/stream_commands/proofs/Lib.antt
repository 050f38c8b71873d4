mod IdLemmas
pub mod WholeCommandLemmas
pub mod MonitorLemmas
