pub mod Texts
pub mod Differing
pub mod States
pub mod Runs
pub mod inner
pub mod Line
