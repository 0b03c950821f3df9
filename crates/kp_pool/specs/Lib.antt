pub mod Folding
pub mod inner
