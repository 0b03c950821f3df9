pub mod Adding
pub mod Steps
pub mod Cells
pub mod Retired
pub mod Causes
pub mod Windows
pub mod Parts
