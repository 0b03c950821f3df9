pub mod Plain
pub mod Readable
pub mod Rows
pub mod GoesOn
pub mod Starts
pub mod inner
