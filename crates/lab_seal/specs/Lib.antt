pub mod Faults
pub mod Parts
pub mod Reading
pub mod Private
