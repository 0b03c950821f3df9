pub mod Timed
pub mod Cycles
pub mod Lines
pub mod Unfit
pub mod inner
