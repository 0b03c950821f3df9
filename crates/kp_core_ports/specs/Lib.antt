pub mod Ports
pub mod Rules
pub mod Core
pub mod Extended
pub mod PortTexts
pub mod Names
pub mod inner
