pub mod OccupantFacts
pub mod Steps
pub mod Fates
pub mod Windows
pub mod Waits
pub mod Moments
pub mod Causing
pub mod Reporting
