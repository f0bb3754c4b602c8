pub mod BodyLemmas
pub mod FoundingLemmas
pub mod KeyLemmas
pub mod KnownBodies
mod KnownRecordBodies
