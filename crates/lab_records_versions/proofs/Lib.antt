pub mod AlteringLemmas
mod KnownEntries
pub mod KnownSignings
pub mod ValueLemmas
