mod Starts
mod Fits
mod Sentences
mod Machine
mod Rows
pub mod Transfer
