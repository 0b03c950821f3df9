pub mod Clocking
pub mod Coding
pub mod Latching
pub mod Noting
pub mod Reached
pub mod Running
pub mod Settling
pub mod Stepping
