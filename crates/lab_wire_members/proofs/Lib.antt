pub mod KnownValues
pub mod MemberLemmas
pub mod ReadingLemmas
pub mod ValueLemmas
pub mod PartLemmas
