pub mod Event
pub mod Fault
pub mod Limited
pub mod Reading
pub mod Replay
pub mod Replays
pub mod Private
