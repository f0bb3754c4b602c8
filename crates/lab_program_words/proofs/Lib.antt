pub mod AppLemmas
pub mod AskLemmas
pub mod GivenLemmas
pub mod KnownValues
