pub mod Known
pub mod Asking
pub mod Outcomes
mod Slashes
mod Bare
pub mod Plain
pub mod Occupants
pub mod Showing
pub mod Beginning
mod Loading
mod Memory
mod Promised
mod Executing
