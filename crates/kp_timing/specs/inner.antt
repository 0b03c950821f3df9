-- For private contracts and proofs only: no public clause of the crate cites these definitions.
pub mod Deciding
pub mod Kept
