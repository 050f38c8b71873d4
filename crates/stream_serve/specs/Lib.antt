-- What the program's contracts speak of.
pub mod Served
pub mod Words
