pub mod Faults
pub mod Tokens
pub mod Numbers
pub mod Mnemonics
pub mod Words
pub mod Program
pub mod Image
pub mod inner
