pub mod Lanes
pub mod Comparing
pub mod Kept
pub mod Rows
pub mod Targets
pub mod Whole
