pub mod Forms
pub mod Laboratories
pub mod Records
pub mod Readable
pub mod Private
