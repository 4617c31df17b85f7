pub mod Copies
pub mod Cut
pub mod Layers
pub mod Limits
pub mod Numerals
pub mod Sections
pub mod Texts
pub mod Widths
