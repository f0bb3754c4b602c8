pub mod Tasks
pub mod Private
