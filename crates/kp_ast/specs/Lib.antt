pub mod Name
pub mod Expressions
pub mod Size
pub mod Checked
pub mod formers
pub mod inner
