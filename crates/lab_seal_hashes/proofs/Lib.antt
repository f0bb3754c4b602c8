pub mod DigitsLemmas
pub mod KnownValues
pub mod StretchingLemmas
pub mod WordsLemmas
