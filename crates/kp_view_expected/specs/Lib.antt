pub mod GoesOn
pub mod Texts
pub mod inner
