pub mod Valid
pub mod Setting
pub mod CellLaws
pub mod Ported
pub mod Steps
pub mod Named
pub mod PictureSteps
pub mod Shown
