-- A worker that checks its file and sends WAIT, over a server that may fail over.
pub mod Keeps
pub mod Rounds
pub mod Schedule
