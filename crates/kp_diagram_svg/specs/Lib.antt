pub mod Sizes
pub mod Picture
