pub mod Policy
pub mod Cases
pub mod Own
pub mod Machine
pub mod Births
pub mod Needs
pub mod Done
pub mod Makings
