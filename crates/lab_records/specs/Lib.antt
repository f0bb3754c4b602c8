pub mod Makings
pub mod Private
