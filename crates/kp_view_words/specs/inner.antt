-- For private contracts and proofs only: a reader need not trust it.
pub mod Asking
pub mod Matching
