-- What a table of the last rows by their keys has.
use Rattle.std.specs.Prelude.{ℕ, List, Option, option_map}
use Rattle.std.specs.BTreeMap.{BTreeMap, get_by}
use Rattle.std.specs.Cmp.Lexicographic.{slice_cmp}
use Rattle.std.specs.Ordering.{nat_cmp}
use denote.Ref.{Bor}
use Rattle.lab_seal_versions.specs.declared.rows.EntryRow.{EntryRow}

-- the row that is noted under a key
abbrev pub noted : BTreeMap (Bor (List ℕ)) (Bor EntryRow) → List ℕ → Option EntryRow
noted table key = option_map (λ row. row.now) (get_by (λ one. slice_cmp nat_cmp key one.now) table)
