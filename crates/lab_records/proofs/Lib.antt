pub mod KnownCommands
pub mod KnownDecisions
pub mod Taken
