-- That all is drained where nothing fails.
pub mod Lists
pub mod Measure
pub mod View
pub mod Good
pub mod Parts
pub mod Still
pub mod Left
pub mod OwnStep
pub mod ClaimStep
pub mod ReadStep
pub mod Drained
pub mod Again
pub mod Counted
mod Sample
mod Wrong
