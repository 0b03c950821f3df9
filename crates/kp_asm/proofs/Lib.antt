pub mod AnyCase
pub mod Skips
pub mod NoTokens
pub mod Lines
pub mod Images
