pub mod KnownValues
pub mod RowLemmas
pub mod SeenLemmas
pub mod PlaceLemmas
pub mod SignerLemmas
pub mod VersionLemmas
pub mod WholeLemmas
pub mod CopyLemmas
