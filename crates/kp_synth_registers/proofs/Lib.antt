pub mod Listed
pub mod Places
pub mod Counting
pub mod Steps
pub mod Growth
pub mod Cells
pub mod Stages
