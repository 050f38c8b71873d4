pub mod KeptLemmas
pub mod ReplyLemmas
pub mod RequestLemmas
pub mod TakenLemmas
pub mod StepLemmas
pub mod LineLemmas
pub mod ExecutedLemmas
pub mod QueuedLemmas
pub mod SessionLemmas
pub mod ScheduleLemmas
pub mod ConfirmedLemmas
pub mod FailoverLemmas
mod ScheduleSample
