pub mod Laid
pub mod Spans
