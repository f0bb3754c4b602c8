pub mod BirthLemmas
pub mod KnownValues
