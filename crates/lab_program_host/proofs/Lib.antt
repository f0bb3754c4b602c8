pub mod ReadLemmas
pub mod ToldLemmas
pub mod RenewLemmas
pub mod KnownValues
