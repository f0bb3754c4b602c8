pub mod ItemLemmas
mod KnownItems
mod KnownParts
mod KnownReadings
pub mod PartLemmas
pub mod ReadLemmas
pub mod RowLemmas
pub mod SpellingLemmas
pub mod TextLemmas
pub mod VersionLemmas
pub mod WholeLemmas
