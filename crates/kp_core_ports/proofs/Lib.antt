pub mod Comments
pub mod Existing
pub mod Turns
pub mod Extending
pub mod Registers
pub mod Steps
