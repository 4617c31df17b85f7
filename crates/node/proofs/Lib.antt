pub mod StepLemmas
pub mod SavingLemmas
pub mod HearerLemmas
pub mod NodeLemmas
pub mod PowerLemmas
pub mod CutLemmas
pub mod LawLemmas
pub mod Sending
