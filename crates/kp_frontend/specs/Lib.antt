pub mod Judging
pub mod Accepting
pub mod inner
