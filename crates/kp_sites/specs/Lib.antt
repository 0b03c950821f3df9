pub mod Sites
pub mod Reports
pub mod inner
