-- Definitions for private contracts and proofs.
pub mod Steps
