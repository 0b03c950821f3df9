pub mod Sentence
pub mod inner
