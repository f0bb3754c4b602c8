pub mod Faults
pub mod Foundings
pub mod RunFaults
pub mod Private
