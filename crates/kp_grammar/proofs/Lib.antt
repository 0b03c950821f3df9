pub mod Conditions
pub mod TableTests
mod Exact
pub mod Prefix
pub mod Steps
pub mod Ways
pub mod Derivations
pub mod Ends
mod Examples
