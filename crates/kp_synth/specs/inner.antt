-- These definitions are only for private contracts and proofs: no public clause of the crate cites them.
pub mod Built
pub mod Rooms
pub mod Seeing
pub mod Whole
pub mod Descending
