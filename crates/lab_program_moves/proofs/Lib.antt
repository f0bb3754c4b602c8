pub mod KnownValues
pub mod MoveLemmas
