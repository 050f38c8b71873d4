-- The definitions that the contracts use.
pub mod Rows
pub mod Laws
pub mod OfRow
pub mod Posts
pub mod OfPost
pub mod Sent
