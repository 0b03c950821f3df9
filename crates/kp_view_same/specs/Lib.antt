pub mod Texts
pub mod Comparing
pub mod Ends
pub mod inner
