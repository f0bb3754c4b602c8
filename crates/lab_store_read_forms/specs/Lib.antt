pub mod Forms
pub mod FormsByCode
pub mod Kinds
pub mod KindsShown
pub mod Readable
pub mod Shown
pub mod Wholes
pub mod Private
