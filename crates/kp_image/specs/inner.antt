-- Definitions for private contracts and proofs only: no public clause depends on them.
pub mod Fits
pub mod Kept
pub mod Laid
