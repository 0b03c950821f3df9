-- Definitions for private contracts and proofs, here and in kp_parse: a reader of `parse` doesn't need them.
pub mod Rank
pub mod Operators
pub mod Stretch
pub mod Extension
