-- For private contracts and proofs only: a reader need not trust it.
pub mod Results
pub mod Machines
pub mod Comparing
pub mod Beside
pub mod Changes
