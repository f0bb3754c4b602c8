pub mod CommandLine
pub mod Laboratories
pub mod Private
