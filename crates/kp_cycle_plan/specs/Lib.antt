pub mod Codes
pub mod Latches
pub mod Plans
pub mod Storage
pub mod Lending
pub mod inner
