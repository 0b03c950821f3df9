pub mod Checked
pub mod Literals
pub mod Operators
pub mod Spelling
pub mod Word
