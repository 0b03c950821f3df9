pub mod Arithmetic
pub mod Machine
pub mod Numerals
pub mod Operators
pub mod Powers
pub mod RoundTrips
pub mod Spellings
pub mod Words
