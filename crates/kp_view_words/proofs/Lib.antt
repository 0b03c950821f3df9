pub mod Asking
pub mod Flags
pub mod Matching
pub mod Parts
pub mod Rests
