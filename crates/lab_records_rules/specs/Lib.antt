pub mod Refusals
pub mod Following
pub mod SigningPolicy
pub mod Making
pub mod Reading
pub mod Latest
pub mod Private
