pub mod Parts
pub mod Untils
pub mod Expected
pub mod inner
