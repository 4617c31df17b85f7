pub mod Asked
pub mod Ends
pub mod Heard
pub mod OneRun
