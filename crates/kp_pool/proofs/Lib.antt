pub mod Folds
pub mod Numbers
pub mod Unfolded
