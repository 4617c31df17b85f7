pub mod LayoutLemmas
pub mod BlockLemmas
pub mod StateLemmas
pub mod BodyLemmas
pub mod FrameLemmas
pub mod ReportLemmas
pub mod DecodeLemmas
pub mod ChoiceLemmas
pub mod HeaderLemmas
pub mod FitLemmas
pub mod ToldLemmas
pub mod LawLemmas
pub mod FramesOfLemmas
pub mod FrameReading
pub mod RowLemmas
pub mod LookLemmas
pub mod Joining
pub mod TagLemmas
pub mod Cutting
pub mod Assembled
pub mod AnyOrder
pub mod OnlySent
pub mod FrameLawLemmas
pub mod FrameSaid
pub mod FrameLooks
pub mod ReadableLemmas
pub mod HearingLemmas
pub mod SenseLemmas
pub mod NodeLemmas
mod StoreLemmas
mod QueueLemmas
mod WaitingLemmas
mod KeptLemmas
mod NoteLemmas
mod LegalLemmas
mod SpelledLemmas
pub mod Sending
