pub mod Passwords
pub mod Persons
pub mod Roles
pub mod Policy
pub mod Refusals
pub mod Sessions
pub mod Attempts
pub mod Openings
