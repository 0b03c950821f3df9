pub mod Keys
pub mod Holding
pub mod Meaning
pub mod inner
