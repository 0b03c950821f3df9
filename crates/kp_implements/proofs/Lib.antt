pub mod Legal
pub mod Cutting
pub mod Anew
