pub mod EventLemmas
pub mod EventRunLemmas
pub mod KnownEvents
mod KnownReplays
pub mod MemoryLemmas
pub mod NextLemmas
pub mod NumberLemmas
pub mod ReadLemmas
pub mod ReplayLemmas
