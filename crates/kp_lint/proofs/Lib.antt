pub mod Noting
pub mod Passing
pub mod Steps
pub mod Vain
pub mod Zero
