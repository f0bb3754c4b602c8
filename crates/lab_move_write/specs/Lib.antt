pub mod Carrying
pub mod Causes
pub mod Commits
pub mod Namings
pub mod Placings
pub mod Tables
pub mod Unfinished
pub mod Private
