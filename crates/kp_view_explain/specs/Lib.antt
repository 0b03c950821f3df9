pub mod Showing
pub mod Messages
pub mod Warned
pub mod Printed
pub mod Explaining
pub mod Listing
pub mod Words
pub mod inner
