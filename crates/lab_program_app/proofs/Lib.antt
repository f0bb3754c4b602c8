pub mod AppLemmas
pub mod ExplainLemmas
mod KnownCommands
mod KnownFaults
