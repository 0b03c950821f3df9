pub mod Compared
pub mod Ends
pub mod IfOks
pub mod Modules
pub mod Outside
pub mod Programs
pub mod Running
pub mod Statuses
pub mod Summed
pub mod Dues
pub mod Pairs
mod Retiring
mod ConstantTime
mod Restarting
pub mod Rollbacks
pub mod Bypassed
pub mod Headline
pub mod Refusals
pub mod Registers
pub mod VerilogShapes
pub mod Readings
pub mod Differences
pub mod Outcomes
pub mod Misreads
pub mod Agreeing
pub mod Heads
pub mod Skips
mod After
pub mod OwnText
mod Watches
pub mod Together
pub mod Executing
pub mod Promised
