pub mod Accounts
pub mod Issues
pub mod Laws
