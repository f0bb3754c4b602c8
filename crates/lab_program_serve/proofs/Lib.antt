pub mod VisitWords
pub mod KnownRehearsals
pub mod KnownServing
pub mod RehearsalLemmas
pub mod RunLemmas
pub mod TextLemmas
pub mod TimeLemmas
pub mod VisitLemmas
