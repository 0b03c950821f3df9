pub mod Histories
pub mod Reaching
pub mod Showing
pub mod Pasts
pub mod Opening
pub mod Races
pub mod Words
pub mod Endings
