-- What a place has to hold, over many runs and checks.
pub mod Entries
pub mod Places
pub mod Checks
pub mod Reports
pub mod Tally
pub mod Spelling
pub mod Ranges
pub mod Reading
pub mod Possible
pub mod Faults
-- What holds of it.
pub mod Stories
pub mod Laws
pub mod Examples
