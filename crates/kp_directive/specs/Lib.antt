pub mod Directives
pub mod Faults
pub mod Messages
