pub mod FileLemmas
pub mod KnownValues
