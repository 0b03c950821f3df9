-- These modules are for private contracts and proofs: a reader need not trust them.
pub mod Bytes
pub mod Words
pub mod Writing
