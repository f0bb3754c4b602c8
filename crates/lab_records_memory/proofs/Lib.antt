pub mod ListLawsWords
pub mod Finds
pub mod KnownValues
pub mod Listing
pub mod Memory
