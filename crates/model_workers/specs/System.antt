-- Workers over one server, each with a file of lines.
pub mod System
pub mod Law
pub mod Rounds
pub mod Desks
pub mod Drained
pub mod Once
pub mod Alone
