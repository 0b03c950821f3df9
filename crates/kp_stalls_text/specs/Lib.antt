pub mod Labels
pub mod Text
pub mod Reports
pub mod inner
