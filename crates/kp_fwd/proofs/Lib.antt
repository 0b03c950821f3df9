pub mod Standing
pub mod Within
