-- What is put together by a laboratory's own row, as the part of the meaning.
use Rattle.std.proofs.Common.{◌≡◌, ℕ, true, List, find, Option, Some, None, option_map, refl, ap, IfSome}
use Rattle.lab_records_kept.specs.declared.needs.Need.{Need}
use Rattle.lab_records_kept.specs.Parts.{part, part_of}
use Rattle.lab_store_tables.specs.Rows.{LabRow, Tables}
use Rattle.lab_store_tables.specs.WellKept.{IsWellKept, has_counted}
use Rattle.lab_store_tables.specs.Meaning.{lab_in, has_code, meaning}
use Rattle.lab_store_read_records.specs.Heads.{lab_head}
use Rattle.lab_store_load.specs.Private.Parts.{slice_by}
use Rattle.lab_store_load.proofs.CountLemmas.{found_among, counted, all_counted}

slice_is : (t : Tables) (need : Need) (row : LabRow) → has_counted t row ≡ true → slice_by t need (lab_head row) ≡ part need (lab_in t row)
slice_is t need row h = λ i. record (part need (lab_in t row)) { counts = counted t row h i }

pub loaded : (t : Tables) → IsWellKept t → (need : Need) (code : List ℕ)
    → option_map (slice_by t need) (option_map lab_head (find (has_code code) t.labs)) ≡ part_of need (meaning t code)
loaded t kept need code = go (find (has_code code) t.labs) (found_among (has_code code) (λ row. has_counted t row ≡ true) t.labs (all_counted t kept))
  where
    go : (o : Option LabRow) → IfSome o (λ row. has_counted t row ≡ true) → option_map (slice_by t need) (option_map lab_head o) ≡ part_of need (option_map (lab_in t) o)
    go None h = refl
    go (Some row) h = ap Some (slice_is t need row h)
