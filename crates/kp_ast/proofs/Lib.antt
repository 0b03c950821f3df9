pub mod Levels
pub mod Induction
pub mod Bodies
pub mod Weight
pub mod Depends
pub mod Parts
