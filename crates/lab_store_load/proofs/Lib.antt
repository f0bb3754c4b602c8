pub mod CountLemmas
pub mod Counting
pub mod KnownParts
pub mod ListLemmas
pub mod Loaded
pub mod PeopleLemmas
pub mod ThingLemmas
