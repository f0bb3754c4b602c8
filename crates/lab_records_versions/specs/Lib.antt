pub mod Entering
pub mod Signing
