pub mod Filling
pub mod ReadLemmas
pub mod ReportLemmas
