mod Outcomes
mod Asking
mod Lines
mod Options
