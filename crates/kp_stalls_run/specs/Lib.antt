pub mod Claims
pub mod Guessed
pub mod Runs
pub mod inner
