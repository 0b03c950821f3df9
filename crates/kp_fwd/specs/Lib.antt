pub mod Forward
pub mod inner
