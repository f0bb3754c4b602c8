pub mod Found
pub mod KeptLoops
pub mod KnownReadable
pub mod Numbered
pub mod Beside
pub mod PeopleFound
pub mod ReadableRows
