-- These definitions are only for private contracts and proofs: no public clause depends on them.
pub mod Noted
