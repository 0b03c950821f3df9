pub mod Tokens
pub mod Language
pub mod Follow
pub mod Reading
pub mod inner
