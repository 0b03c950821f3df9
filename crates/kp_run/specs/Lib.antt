pub mod Cycles
pub mod Columns
pub mod Homes
pub mod Places
pub mod Boards
pub mod inner
