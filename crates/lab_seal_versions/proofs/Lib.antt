pub mod KnownSeals
pub mod KnownVersions
pub mod RowLemmas
