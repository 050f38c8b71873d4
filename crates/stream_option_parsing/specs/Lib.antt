pub mod Answer
pub mod AnswerMeaning
pub mod Lines
pub mod Parts
pub mod Split
pub mod Told
