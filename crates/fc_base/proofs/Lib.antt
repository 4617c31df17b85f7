pub mod AscendingLemmas
pub mod ListLemmas
pub mod MarkLemmas
pub mod Sending
