pub mod Causes
pub mod CopyTexts
pub mod Ranges
pub mod Resting
pub mod Faults
pub mod Legible
pub mod Private
