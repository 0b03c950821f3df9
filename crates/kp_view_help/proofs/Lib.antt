pub mod Allows
pub mod Lines
pub mod Written
