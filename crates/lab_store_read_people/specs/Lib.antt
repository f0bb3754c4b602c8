pub mod Heads
pub mod PersonsReadable
pub mod PersonsShown
pub mod SessionsShown
pub mod Private
