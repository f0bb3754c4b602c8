pub mod Causes
pub mod Cells
pub mod Faults
pub mod Reads
pub mod Shown
pub mod Known
pub mod Private
