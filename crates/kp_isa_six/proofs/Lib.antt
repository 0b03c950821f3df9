pub mod Computes
pub mod Rows
pub mod Executing
