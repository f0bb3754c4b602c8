pub mod RequestWords
pub mod LeavingWords
pub mod Staying
pub mod Keeping
pub mod Retaining
pub mod Releasing
pub mod Lasting
pub mod Copying
pub mod Running
pub mod Leaving
pub mod Starting
mod KnownCauses
mod KnownValues
pub mod Deciding
