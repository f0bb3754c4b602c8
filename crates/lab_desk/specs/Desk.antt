-- What a desk shows: its keeper, and its last reply.
use Rattle.std.specs.Prelude.{ℕ, List}

-- a desk as its callers see it
pub record Served (S : Type 0) : Type 0 where
  pub keeper : S
  pub reply : List ℕ
