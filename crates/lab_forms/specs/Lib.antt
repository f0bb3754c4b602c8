pub mod Numbers
pub mod Dates
pub mod Faults
pub mod Words
pub mod Kinds
pub mod Forms
pub mod Equality
