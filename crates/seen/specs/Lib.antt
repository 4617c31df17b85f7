-- What is seen of a world, and what is claimed of it.
pub mod Observations
pub mod Sightings
pub mod Takings
pub mod Texts
pub mod Files
pub mod Disks
pub mod Reports
pub mod Cuts
pub mod Refusals
pub mod Kept
pub mod Claims
-- The worlds of which it is claimed.
pub mod Watching
-- Examples.
pub mod Examples
