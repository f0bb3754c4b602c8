pub mod Finding
pub mod KnownValues
pub mod Replacing
