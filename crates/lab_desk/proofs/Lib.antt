pub mod AnsweringWords
pub mod Agreeing
pub mod HandlingLemmas
pub mod Happenings
mod KnownRuns
pub mod KnownTwins
pub mod OwnEvents
pub mod Receiving
