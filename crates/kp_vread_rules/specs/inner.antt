-- For private contracts and proofs of this crate only: no public clause depends on it.
pub mod Sets
pub mod Roles
pub mod Listed
pub mod Starting
pub mod StartValues
pub mod Sizing
pub mod Asking
pub mod Driving
