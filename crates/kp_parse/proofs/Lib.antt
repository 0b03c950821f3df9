pub mod Text
pub mod Unique
pub mod Verdict
mod Picks
mod Parts
