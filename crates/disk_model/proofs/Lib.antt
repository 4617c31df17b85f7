pub mod SectorLemmas
pub mod PickLemmas
pub mod ContentLemmas
pub mod LawLemmas
pub mod Sending
