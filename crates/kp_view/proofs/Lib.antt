pub mod Ends
pub mod Listings
pub mod Netlists
pub mod Outside
pub mod Pictures
pub mod Pieces
pub mod Tables
