-- The known ids, and the ids of lines.
pub mod Cut
pub mod Number
pub mod Known
pub mod Told
