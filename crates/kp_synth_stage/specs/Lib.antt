pub mod Rows
pub mod Work
pub mod Reading
pub mod Doing
pub mod Scopes
pub mod Known
pub mod inner
