pub mod Members
pub mod Fleets
pub mod Begins
pub mod Again
pub mod Laws
