mod Drawing
mod Spelled
mod Rounds
pub mod Forms
pub mod Lookups
mod Steps
pub mod Texts
mod Declarations
mod Statements
pub mod NamesHold
mod Finds
mod Items
mod Walks
mod StageLookups
mod Puts
mod Sets
mod Asked
mod Kept
mod Totals
mod Small
mod Holds
pub mod Unbroken
