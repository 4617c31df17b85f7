mod ClientCellLemmas
mod ClientHearLemmas
mod ClientPowerLemmas
mod ServerCellLemmas
mod ServerHearLemmas
mod ServerPowerLemmas
pub mod CallLemmas
pub mod ClientStarts
pub mod HistoryLemmas
pub mod HubLemmas
pub mod MoveLemmas
pub mod PowerLemmas
pub mod ServerStarts
pub mod StepLemmas
pub mod Sending
