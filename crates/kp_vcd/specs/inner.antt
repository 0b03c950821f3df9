-- For private contracts and proofs only: a reader need not trust it.
pub mod Left
pub mod Meeting
pub mod Shown
