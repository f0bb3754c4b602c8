-- Values from outside, so that a wrong rule in the definitions does not check: two changes, one after
-- the other, of two laboratories' tables, no change, and changes of a laboratory that isn't there.
use Rattle.std.proofs.Common.{◌≡◌, true, ℕ, pos, [], ◌∷◌, Option, Some, None, refl, inl, inr}
use Rattle.std.specs.Prelude.{codes}
use Rattle.lab_records_kept.specs.declared.changes.Change.TheVariants.{Last, Strays}
use Rattle.lab_store_tables.specs.Rows.{LabRow, Tables}
use Rattle.lab_store_tables.specs.Family.{Name, Desk, id_of, rows}
use Rattle.lab_store_tables.specs.Held.{AreRising}
use Rattle.lab_store_tables.proofs.KnownFile.{lab, desk}
use Rattle.lab_store_tables.proofs.Tests.{are_rising, keyed_from_test}
use Rattle.lab_store_tables.specs.ByRules.{IsByRules}
use Rattle.lab_store_tables.specs.Steps.{AreMade, AreMadeIfAny}

-- brick and aqua, with aqua's last moment and stray passwords
abbrev two : ℕ → ℕ → Tables
two last strays = record {
  desk = desk (pos 1) 3 ∷ [];
  labs = lab (pos 3) (codes "brick") (codes "Brick Lab") 700 0 0 0 0
      ∷ lab (pos 7) (codes "aqua") (codes "Aqua Lab") last strays 0 0 0
      ∷ [];
  persons = [];
  sessions = [];
  forms = [];
  fields = [];
  choices = [];
  records = [];
  versions = [];
  entries = [];
  signatures = [];
  trail = [];
}

ids_rise : (k : Name) (last strays : ℕ) → are_rising (id_of k) (rows k (two last strays)) ≡ true
ids_rise Desk last strays = refl
ids_rise _ last strays = refl

rising : (last strays : ℕ) → AreRising (two last strays)
rising last strays = record { at = λ k. keyed_from_test (id_of k) (rows k (two last strays)) (ids_rise k last strays) }

rules : (last strays : ℕ) → IsByRules (two last strays)
rules last strays = record { ids = refl; keys = refl; arrows = refl }

-- the first change first: the second finds what it made; brick's row is as it was
pub known_two_changes : AreMade (codes "aqua") (Last 1700 ∷ Strays 3 ∷ []) (two 1600 2) (two 1700 3)
known_two_changes = record {
  lab = lab (pos 7) (codes "aqua") (codes "Aqua Lab") 1600 2 0 0 0;
  found = refl;
  steps = (
    two 1700 2,
    record { applies = refl; rising = rising 1700 2; rules = rules 1700 2 },
    (two 1700 3, record { applies = refl; rising = rising 1700 3; rules = rules 1700 3 }, refl),
  );
}

-- where there is no change to make, a laboratory need not be there
pub known_no_change : AreMadeIfAny (codes "zinc") [] (two 1600 2) (two 1600 2)
known_no_change = inl (refl, refl)

-- where there is one, it has to
pub known_no_laboratory : AreMadeIfAny (codes "zinc") (Last 1700 ∷ []) (two 1600 2) (two 1600 2) → ⊥
known_no_laboratory (inl none) = absurd (let wrong : Last 1700 ∷ [] ≡ [] = none.0 in cc)
known_no_laboratory (inr made) = absurd (let wrong : ◌≡◌ {A = Option LabRow} None (Some made.lab) = made.found in cc)
