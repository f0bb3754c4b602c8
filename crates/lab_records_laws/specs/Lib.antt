pub mod Asking
pub mod Births
pub mod Deciding
pub mod Inspections
pub mod Runs
pub mod Stepping
pub mod TakenSteps
pub mod Telling
