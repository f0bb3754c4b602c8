pub mod KnownOuts
pub mod KnownRows
pub mod ListLemmas
pub mod ReadLemmas
pub mod SendLemmas
pub mod SoundLemmas
pub mod TextLemmas
