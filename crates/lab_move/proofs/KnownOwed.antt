-- Values from outside, so that a wrong rule in the definitions does not check: what an old file owes, and which code comes first.
use Rattle.std.proofs.Common.{◌≡◌, inl, inr, ℤ, ◌<◌, pos, Bool, true, false, Option, Some, None, Ok, Err, refl, arith}
use Rattle.std.specs.Prelude.{codes}
use Rattle.lab_store_files.specs.declared.faults.FileFault.TheVariants.{NotADeskFile, SchemaOld, SchemaNew, Storage}
use Rattle.lab_move_tables.specs.Olders.{number_of}
use Rattle.lab_move_tables.specs.declared.older.Older.{Older}
use Rattle.lab_move_tables.specs.declared.older.Older.TheVariants.{Two}
use Rattle.lab_move.specs.Owed.{IsOldOwed, precedes}

abbrev pub all_there : Older → Bool
all_there older = true

abbrev pub none_there : Older → Bool
none_there older = false

under : (older : Older) → 1 < number_of older
under Two = omega arith

over : (older : Older) → number_of older < 3
over Two = omega arith

-- a whole file that names 2 is one of schema 2, and no file of laboratories where it lacks a table; 1 and 3 are told as they are,
-- whole or not; no number and 0 are no file of laboratories
pub known_owed : IsOldOwed all_there (Some (pos 2)) (Ok Two) × IsOldOwed none_there (Some (pos 2)) (Err NotADeskFile)
    × IsOldOwed all_there (Some (pos 1)) (Err (SchemaOld 1)) × IsOldOwed none_there (Some (pos 3)) (Err (SchemaNew 3))
    × IsOldOwed all_there None (Err NotADeskFile) × IsOldOwed all_there (Some (pos 0)) (Err NotADeskFile)
known_owed = (
  (refl, refl),
  inr (Two, refl, refl),
  (refl, omega arith, under),
  (refl, over),
  inl (λ n some is. cc),
  inl (λ n some is. let same : n ≡ 0 = cc in absurd (omega (arith, some, same))),
)

not_three : (older : Older) → ¬ ◌≡◌ {A = Option ℤ} (Some (pos 3)) (Some (pos (number_of older)))
not_three Two named = cc

-- and no other: today's file isn't told as none, one of schema 2 not as an older one
pub known_unowed : ¬ IsOldOwed all_there (Some (pos 3)) (Err NotADeskFile) × ¬ IsOldOwed all_there (Some (pos 2)) (Err (SchemaOld 2))
    × ¬ IsOldOwed none_there (Some (pos 2)) (Ok Two) × ¬ IsOldOwed all_there (Some (pos 2)) (Err Storage)
known_unowed = (
  λ h. elim h [ inl none ↦ none 3 (omega arith) refl | inr it ↦ not_three it.0 it.1 ],
  λ h. absurd (let low = h.2 Two in omega (arith, low)),
  λ h. absurd (let lacks = h.1 in cc),
  λ h. h,
)

-- by the bytes: a capital comes before a small letter, and a text before one that goes on
pub known_order : (precedes (codes "Zinc") (codes "aqua") ≡ true) × (precedes (codes "aqua") (codes "aqua2") ≡ true)
    × (precedes (codes "brick") (codes "aqua") ≡ false) × (precedes (codes "aqua") (codes "aqua") ≡ false)
known_order = (refl, refl, refl, refl)
