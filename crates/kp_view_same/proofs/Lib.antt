pub mod Judging
pub mod Saying
pub mod Ending
