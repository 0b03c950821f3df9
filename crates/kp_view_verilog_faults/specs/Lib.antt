pub mod Classes
pub mod Helps
pub mod Marks
pub mod Sources
pub mod inner
