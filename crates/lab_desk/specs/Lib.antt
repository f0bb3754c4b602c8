pub mod Answering
pub mod Desk
pub mod Founding
pub mod Handling
pub mod Serving
pub mod Twins
pub mod Private
