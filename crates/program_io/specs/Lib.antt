pub mod Input
pub mod Words
pub mod Refusals
pub mod Reports
