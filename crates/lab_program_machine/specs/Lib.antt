pub mod HostFaults
pub mod Private
