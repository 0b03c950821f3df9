pub mod Fitting
pub mod Extending
pub mod Rows
mod Entries
pub mod Names
pub mod Giving
pub mod Lists
pub mod Forms
pub mod Agree
pub mod Calls
pub mod Work
