-- For private contracts and proofs only: a reader need not trust it.
pub mod Homes
pub mod Lanes
pub mod Boards
pub mod Finals
