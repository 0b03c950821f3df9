pub mod Rows
pub mod Monitors
pub mod Lines
pub mod Runs
pub mod Examples
pub mod inner
