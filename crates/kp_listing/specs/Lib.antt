pub mod Listings
pub mod Seen
pub mod inner
