-- Definitions for private contracts and proofs only: a reader of the public contracts doesn't need them.
pub mod Stretches
