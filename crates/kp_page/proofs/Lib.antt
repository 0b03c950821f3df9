pub mod Lines
pub mod Words
pub mod Alike
pub mod Running
pub mod Listed
pub mod PageLines
