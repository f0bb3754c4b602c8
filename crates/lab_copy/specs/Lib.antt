pub mod Checks
pub mod Faults
pub mod Fronts
pub mod Current
pub mod Kept
pub mod Places
pub mod Private
