pub mod Latching
pub mod Lists
pub mod Marking
pub mod Copies
pub mod Spans
pub mod Storing
