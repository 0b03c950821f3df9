pub mod Fits
pub mod Along
pub mod Outcome
pub mod Stands
pub mod Names
pub mod Counted
pub mod Lengths
