pub mod BlockLemmas
pub mod DamageLemmas
pub mod DifferenceLemmas
pub mod FarLemmas
pub mod KindLemmas
pub mod OwnLemmas
pub mod PieceLemmas
pub mod SectorLemmas
