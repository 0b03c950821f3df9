-- Definitions for private contracts and proofs.
pub mod Naming
pub mod Shown
pub mod Found
pub mod Reading
pub mod Outputs
