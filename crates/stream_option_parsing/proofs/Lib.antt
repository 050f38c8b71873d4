mod AnswerLemmas
mod Devices
mod LineLemmas
pub mod Numbers
pub mod OneAnswer
mod PolicyLemmas
mod ReadLemmas
pub mod Splits
mod StrategyLemmas
pub mod Texts
