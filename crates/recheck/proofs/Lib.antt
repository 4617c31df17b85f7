mod DiskLemmas
mod EndLemmas
mod ExpectedLemmas
mod FitLemmas
mod LossLemmas
mod ReportLemmas
mod TallyLemmas
pub mod FitReports
