pub mod Causes
pub mod Gives
pub mod GivenRows
pub mod Private
