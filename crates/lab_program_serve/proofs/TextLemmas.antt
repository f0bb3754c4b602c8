-- Lines that are written whole, where a fault came later.
use Rattle.std.proofs.Common.{arith, ℕ, List, length, take, Option, sym, subst}
use Rattle.std.specs.Io.KnownBytes.{Appends}
use Rattle.std.proofs.lemmas.List.{take_all}

-- a text that was written whole, where a fault came later
pub printed_all : (text : List ℕ) (before after : Option (List ℕ)) → Appends before after text →
    (sent : ℕ) × Appends before after (take sent text)
printed_all text before after whole = (
  length text,
  subst (Appends before after) (sym (take_all (length text) text (omega arith)))
      whole,
)
