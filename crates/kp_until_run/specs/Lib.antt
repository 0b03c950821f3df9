pub mod Ending
pub mod Missed
pub mod inner
