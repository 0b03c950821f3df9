pub mod Declared
pub mod Feeding
pub mod Given
pub mod Loops
pub mod Patterns
pub mod Unbroken
