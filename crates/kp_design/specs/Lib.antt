pub mod Numbers
pub mod Spans
pub mod Fits
pub mod inner
