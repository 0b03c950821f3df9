pub mod Writers
pub mod Results
pub mod Asking
pub mod Sizes
