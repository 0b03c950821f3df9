pub mod Forms
pub mod Heads
pub mod Helps
pub mod Marks
