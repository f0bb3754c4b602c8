pub mod LastRows
pub mod KnownValues
