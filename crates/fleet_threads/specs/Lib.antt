pub mod Block
pub mod Counts
pub mod Seats
pub mod Turns
pub mod Slots
pub mod Tasks
