pub mod Alike
pub mod Words
pub mod Figures
pub mod Shown
pub mod Moving
pub mod Walking
pub mod Windowed
