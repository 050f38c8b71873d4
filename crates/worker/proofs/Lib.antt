-- What the loop over entries keeps.
pub mod ReadLemmas
pub mod TakingLemmas
pub mod PhaseLemmas
pub mod WorkerLemmas
pub mod InPlaceLemmas
pub mod StepLemmas
pub mod LetterLemmas
pub mod SessionLemmas
pub mod RoundLemmas
pub mod PipelinedLemmas
pub mod FinishLemmas
pub mod LifeLemmas
pub mod ConfirmLemmas
pub mod DeadLettersLemmas
pub mod OutboxLemmas
pub mod EntryJsonLemmas
