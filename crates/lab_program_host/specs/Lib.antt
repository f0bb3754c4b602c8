pub mod Sources
pub mod Faults
pub mod TaskEnds
pub mod Hosts
pub mod Renewing
