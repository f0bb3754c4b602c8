pub mod CopyLemmas
pub mod FoundingLemmas
pub mod HistoryLemmas
pub mod KnownValues
pub mod ServingLemmas
pub mod StartLemmas
pub mod StopLemmas
