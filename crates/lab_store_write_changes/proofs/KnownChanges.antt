-- Small instances of the definitions: the row of a laboratory that is founded.
use Rattle.std.proofs.Common.{refl, pos, [], ◌∷◌, true≢false}
use Rattle.std.specs.Prelude.{codes}
use Rattle.lab_records_kept.specs.declared.labs.Lab.{Lab}
use Rattle.lab_records_kept.proofs.KnownDefaults.{bare_lab}
use Rattle.lab_store_tables.specs.Rows.{Tables}
use Rattle.lab_store_tables.proofs.KnownFile.{file, lab}
use Rattle.lab_store_tables.proofs.KnownValues.{eve}
use Rattle.lab_store_write_changes.specs.NewbornRows.{AddsLab}

abbrev zinc : Lab
zinc = record bare_lab { code = codes "zinc"; name = codes "Zinc Lab"; last = 2000; persons = eve ∷ [] }

-- the row says that no number was given yet, whatever the laboratory has, and stands at the place of its id
abbrev with_zinc : Tables
with_zinc = record file {
  labs = lab (pos 3) (codes "brick") (codes "Brick Lab") 700 0 1 2 6
      ∷ lab (pos 5) (codes "zinc") (codes "Zinc Lab") 2000 0 0 0 0
      ∷ lab (pos 7) (codes "aqua") (codes "Aqua Lab") 1600 2 2 2 12
      ∷ [];
}

pub known_row : AddsLab (pos 5) zinc file with_zinc
known_row = record { free = refl; made = refl }

-- aqua's own id isn't free: no tables are those with a row more under it
pub known_taken : (new : Tables) → AddsLab (pos 7) zinc file new → ⊥
known_taken new added = true≢false added.free
