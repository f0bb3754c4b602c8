pub mod Cells
pub mod Faults
pub mod Kept
pub mod Persons
pub mod Readable
pub mod Private
