pub mod Levels
pub mod Meaning
mod Calling
mod Rooms
pub mod CodeLevels
pub mod CodeCalls
pub mod Numbers
mod Typing
mod Replacing
mod Places
mod Arms
