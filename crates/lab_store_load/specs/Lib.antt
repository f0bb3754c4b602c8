pub mod Counts
pub mod Lists
pub mod People
pub mod Readable
pub mod Things
pub mod Private
