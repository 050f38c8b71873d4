-- The definitions that a log's contracts use.
pub mod Device
pub mod Lines
pub mod Escape
pub mod EntryLine
pub mod EntryLineMeaning
pub mod LineTexts
pub mod Holds
pub mod LastLines
pub mod Log
pub mod Past
pub mod Torn
pub mod KnownIds
