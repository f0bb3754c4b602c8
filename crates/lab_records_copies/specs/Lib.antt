pub mod CopyLines
pub mod Soundness
pub mod Private
