pub mod Figures
pub mod Windows
pub mod FigureClaims
pub mod inner
