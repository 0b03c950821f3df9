pub mod Text
pub mod Rv32im
pub mod Isa
