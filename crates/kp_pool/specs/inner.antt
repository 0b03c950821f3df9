-- Definitions for private contracts and proofs of this crate only: no public clause depends on them.
pub mod Folds
pub mod Numbers
