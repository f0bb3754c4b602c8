pub mod Refusals
pub mod Values
pub mod Members
pub mod Readings
pub mod Parts
