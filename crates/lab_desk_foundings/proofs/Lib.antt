pub mod Bearing
pub mod Bodies
mod KnownFoundings
pub mod KnownRunFaults
