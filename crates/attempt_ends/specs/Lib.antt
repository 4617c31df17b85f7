pub mod Places
pub mod Asked
pub mod Attempts
pub mod PlaceEnds
pub mod AttemptEnds
pub mod Laws
pub mod Examples
