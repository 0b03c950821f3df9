-- Definitions for private contracts and proofs only: no public clause depends on them.
pub mod Bounds
pub mod Descent
pub mod Latest
pub mod Named
