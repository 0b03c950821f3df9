pub mod Naming
pub mod Traces
pub mod Shows
pub mod Legal
pub mod Anew
pub mod Cuts
