pub mod AutoClaimLawLemmas
pub mod AutoclaimRespellingLemmas
mod InfoFullLemmas
pub mod InfoLemmas
mod MoreFieldsLemmas
pub mod OtherKeysLemmas
pub mod PendingLemmas
