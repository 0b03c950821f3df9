-- These definitions are only for private contracts and proofs: no public clause of the crate cites them.
pub mod Tables
pub mod Laid
