pub mod Steps
pub mod Saving
pub mod Hearers
pub mod Nodes
pub mod Kinds
