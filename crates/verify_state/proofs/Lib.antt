pub mod CountLemmas
pub mod DistinctLemmas
pub mod FaultLemmas
pub mod LayoutLemmas
pub mod LimitLemmas
pub mod FieldLemmas
pub mod PieceLemmas
pub mod RangeLemmas
pub mod SpellingLemmas
pub mod WritingLemmas
mod EntryLemmas
mod ReadingLemmas
mod TableLemmas
pub mod CountedLemmas
pub mod RefusalLemmas
