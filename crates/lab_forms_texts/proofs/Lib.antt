pub mod SpanLemmas
pub mod CalendarLemmas
pub mod NamesLemmas
pub mod MomentLemmas
pub mod KnownValues
