mod CommandLemmas
pub mod Numbered
pub mod UnreadLemmas
pub mod Whole
pub mod LiveWhole
