pub mod Words
pub mod Reading
pub mod Texts
pub mod Due
pub mod inner
