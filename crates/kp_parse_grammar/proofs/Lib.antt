pub mod Taking
pub mod Predictive
pub mod Picks
pub mod Steps
pub mod Operators
pub mod Ranked
pub mod Shapes
