pub mod Calendar
pub mod Faults
pub mod Moment
pub mod Names
pub mod Ordinals
