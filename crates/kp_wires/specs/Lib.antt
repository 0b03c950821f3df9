pub mod Table
pub mod Texts
pub mod Truth
pub mod Comments
pub mod Statements
