pub mod Ends
pub mod Faults
pub mod Files
pub mod Volumes
