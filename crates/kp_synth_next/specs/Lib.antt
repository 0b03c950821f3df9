pub mod Nexts
pub mod Shows
pub mod Closed
pub mod Control
pub mod Bound
pub mod inner
