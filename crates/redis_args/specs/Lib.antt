pub mod Clause
pub mod FixedArgs
pub mod Room
pub mod Writer
