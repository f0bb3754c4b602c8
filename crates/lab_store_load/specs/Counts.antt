-- A laboratory whose row was found and whose persons were counted, and when that is right. It may
-- be kept as long as the tables stay as they are.
use Rattle.std.specs.Prelude.{◌≡◌, ℕ, ℤ, length, find, List, Option, Some, option_map, IfSome, IsTrue}
use Rattle.sqlite.specs.State.{State, HasCleanDisk}
use Rattle.lab_store_tables.specs.Rows.{Tables, lab_id}
use Rattle.lab_store_tables.specs.Meaning.{has_code, persons_of}
use Rattle.lab_store_tables.specs.Ready.{IsKept, WhereShown, tables_of}
use Rattle.lab_store_load.specs.declared.counts.Counted.{Counted}

-- the id of the row of the laboratory of the code, if there is one
abbrev pub lab_id_of : Tables → List ℕ → Option ℤ
lab_id_of t code = option_map lab_id (find (has_code code) t.labs)

-- the laboratory of the code has the row, and so many persons
pub record IsCounted (t : Tables) (counted : Counted) : Type 0 where
  pub found : Some counted.lab ≡ lab_id_of t counted.code
  pub persons : counted.persons ≡ length (persons_of t counted.lab)

-- what was counted, where anything was, is right for what a connection shows, if that is well kept
abbrev pub IsCountedIn : State → Option Counted → Type 0
IsCountedIn s counted = WhereShown s (IsKept s.now → IfSome counted (IsCounted (tables_of s)))

-- and the connection is open, where anything was counted and no fault of the disk went unseen
abbrev pub IsOpenIn : State → Option Counted → Type 0
IsOpenIn s counted = HasCleanDisk s → IfSome counted (λ _. IsTrue s.is_open)
