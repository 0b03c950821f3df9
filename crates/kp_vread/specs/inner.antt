-- For private contracts and proofs only: no public clause depends on it.
pub mod Whole
pub mod Numbering
pub mod Building
pub mod Nexts
pub mod Parts
