pub mod Grammar
pub mod Tables
pub mod Machine
pub mod Ranks
pub mod Sample
