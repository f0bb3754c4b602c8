pub mod Fields
pub mod Kinds
pub mod Lines
pub mod VersionRowParts
pub mod Private
