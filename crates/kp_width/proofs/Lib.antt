mod Entries
pub mod Functions
mod Sums
pub mod Unbroken
pub mod Parts
pub mod Sound
pub mod Found
pub mod Calls
pub mod Listed
