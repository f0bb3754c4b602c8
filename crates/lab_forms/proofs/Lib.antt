pub mod DateLemmas
pub mod FormLemmas
pub mod KnownValues
pub mod EqualityLemmas
pub mod NumberLemmas
pub mod WordLemmas
