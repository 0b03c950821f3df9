-- For private contracts and proofs only: a reader need not trust it.
pub mod Bits
pub mod Shapes
pub mod Inputs
pub mod Meaning
pub mod Indexed
