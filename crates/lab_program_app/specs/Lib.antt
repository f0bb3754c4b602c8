pub mod Apps
pub mod Explaining
