pub mod Causes
pub mod Commits
pub mod Counting
pub mod Founding
pub mod Openings
pub mod StoreLaws
pub mod StoreWorlds
pub mod Private
