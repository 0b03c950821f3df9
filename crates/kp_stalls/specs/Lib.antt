pub mod Occupants
pub mod Causes
pub mod Cycles
pub mod Windows
pub mod Claims
