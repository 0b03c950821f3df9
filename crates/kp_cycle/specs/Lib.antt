pub mod Runs
pub mod Spans
pub mod Steps
