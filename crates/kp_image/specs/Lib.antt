pub mod Faults
pub mod Sections
pub mod Cycles
pub mod Spans
pub mod Feeds
pub mod inner
