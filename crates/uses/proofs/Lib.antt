pub mod CameLemmas
pub mod GivenLemmas
pub mod KeptLemmas
pub mod Losses
pub mod OneByOne
pub mod WorldLemmas
mod ListLemmas
mod StateLemmas
mod LegalLemmas
mod FrameLemmas
mod CutLemmas
mod DiagnosisLemmas
mod PacketLemmas
mod PieceLemmas
mod LossLemmas
mod ClientCutLemmas
mod MirrorCutLemmas
mod ServerCutLemmas
mod ServerLossLemmas
mod StoryClientLemmas
mod StoryServerLemmas
mod FleetLemmas
mod FleetBeginLemmas
