-- These modules are for private contracts and proofs: a reader need not trust them.
pub mod Reading
