pub mod States
pub mod Runs
pub mod Claims
pub mod Page
pub mod inner
