-- For private contracts and proofs only: a reader need not trust it.
pub mod Histories
pub mod Pasts
pub mod Races
pub mod Contents
