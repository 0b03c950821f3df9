-- Definitions for private contracts and proofs only: no public clause depends on them.
pub mod Words
pub mod Walks
