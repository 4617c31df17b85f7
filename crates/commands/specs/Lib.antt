pub mod Lines
pub mod Answer
pub mod World
pub mod Command
pub mod Texts
pub mod Live
