mod KnownValues
mod LawLemmas
mod WordLemmas
