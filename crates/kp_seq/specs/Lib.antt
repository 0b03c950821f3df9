pub mod Recorded
pub mod Computed
pub mod Running
pub mod inner
