pub mod Words
pub mod Asked
pub mod Texts
pub mod inner
