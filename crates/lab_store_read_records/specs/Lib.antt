pub mod Heads
pub mod Laboratories
pub mod Leaves
pub mod Readable
pub mod Retrieved
pub mod Shown
pub mod Sought
pub mod Private
