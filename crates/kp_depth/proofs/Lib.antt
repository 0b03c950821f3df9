pub mod Logarithms
pub mod Chains
pub mod Arrivals
pub mod Longest
pub mod Latest
pub mod Listing
pub mod Texts
pub mod OnPath
