pub mod Texts
pub mod Depths
pub mod Complaints
pub mod Listed
pub mod Due
pub mod Ends
pub mod inner
