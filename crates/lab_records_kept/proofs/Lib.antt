pub mod ReleaseLemmas
pub mod FoundLemmas
pub mod KnownDefaults
pub mod KnownValues
pub mod KnownLaboratories
