pub mod Draws
pub mod Generated
pub mod Samples
pub mod inner
