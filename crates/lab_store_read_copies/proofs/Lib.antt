mod CauseLemmas
pub mod GivesLemmas
pub mod GoneLemmas
pub mod FoundLemmas
pub mod RowLemmas
pub mod KnownValues
