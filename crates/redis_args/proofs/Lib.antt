pub mod DecimalLemmas
pub mod FixedArgsLemmas
pub mod RoomLemmas
pub mod WriterLemmas
