-- For private contracts and proofs of this crate and of the parser's: no public clause depends on it.
pub mod Follow
pub mod Leads
