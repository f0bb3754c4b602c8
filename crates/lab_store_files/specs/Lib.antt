pub mod Faults
pub mod Tables
pub mod Schemas
pub mod Verdicts
pub mod Owed
pub mod NewFiles
pub mod Private
