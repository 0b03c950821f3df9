-- For private contracts and proofs only: a reader need not trust it.
pub mod Pieces
pub mod Writing
pub mod Lines
