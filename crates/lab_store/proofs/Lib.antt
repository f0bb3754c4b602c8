mod Blames
pub mod StoreWorldWords
mod After
mod Applied
mod Causes
mod Commits
mod Committed
mod Endings
mod Given
pub mod KnownCauses
pub mod KnownCommits
pub mod KnownStores
mod Placed
mod Settled
mod Turns
