pub mod Readable
pub mod Shown
pub mod Trails
pub mod Private
