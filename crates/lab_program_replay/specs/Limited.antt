-- A reader that is asked a limited number of times, as its callers see it.
use Rattle.std.specs.Prelude.{ℕ}

-- the reader below it, and how often that may still be asked
pub record Limited (R : Type 0) : Type 0 where
  pub reader : R
  pub asks_left : ℕ
