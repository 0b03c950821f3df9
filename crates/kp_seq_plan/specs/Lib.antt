pub mod Names
pub mod Plans
pub mod Codes
pub mod Lowering
pub mod inner
