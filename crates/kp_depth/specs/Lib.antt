pub mod Delay
pub mod Times
pub mod Paths
pub mod Ends
pub mod Depths
pub mod Statements
pub mod Text
pub mod inner
