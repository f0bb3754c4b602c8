pub mod FieldLemmas
pub mod KnownFields
pub mod KnownLines
mod KnownVersionLines
pub mod RowLemmas
