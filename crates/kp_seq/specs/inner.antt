-- These definitions are only for private contracts and proofs: no public clause of the crate cites them.
pub mod Steps
pub mod Tables
pub mod Names
pub mod Fits
pub mod Resolved
pub mod Flight
pub mod Ready
pub mod Notes
