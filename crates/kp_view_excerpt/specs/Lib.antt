pub mod Lines
pub mod Tokens
pub mod Excerpts
pub mod Faults
pub mod Notes
