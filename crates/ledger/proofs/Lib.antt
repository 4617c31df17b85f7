mod CheckLemmas
pub mod EntryLemmas
mod PlaceLemmas
mod SizeLemmas
pub mod StoryLemmas
mod TallyLemmas
mod TouchedLemmas
mod ReadingLemmas
mod RunLemmas
mod TableLemmas
mod WritingLemmas
mod PossibleLemmas
mod ReportStoryLemmas
