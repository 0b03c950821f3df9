pub mod Carrying
pub mod Known
pub mod inner
pub mod Stages
