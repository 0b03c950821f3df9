pub mod Fitting
pub mod Laying
pub mod Limits
pub mod Opening
pub mod Apart
pub mod Pipes
pub mod Lasting
pub mod Quiet
