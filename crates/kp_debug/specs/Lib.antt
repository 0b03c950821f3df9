pub mod Inspecting
pub mod Sessions
pub mod inner
