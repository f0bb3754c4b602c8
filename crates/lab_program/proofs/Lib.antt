pub mod DoneLemmas
pub mod UnbegunLemmas
pub mod WholeLemmas
mod KnownValues
