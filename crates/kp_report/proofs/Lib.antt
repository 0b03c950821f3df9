pub mod Alike
pub mod Files
pub mod Lines
pub mod Numbers
pub mod Sims
pub mod Reported
mod Sums
pub mod Generated
