pub mod Text
pub mod Six
pub mod Isa
pub mod Executing
