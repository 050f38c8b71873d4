pub mod Answer
pub mod Bytes
pub mod Below
pub mod Found
pub mod Job
pub mod Reading
pub mod Replies
