pub mod Verdicts
pub mod Private
