pub mod Slots
pub mod Trees
pub mod Machine
pub mod Words
pub mod Examples
