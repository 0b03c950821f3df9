pub mod Tables
pub mod Used
pub mod Ready
pub mod Alike
pub mod Sets
pub mod Lints
pub mod Claims
pub mod inner
