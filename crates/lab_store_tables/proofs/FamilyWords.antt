-- Definitions for proofs only, which belong to specs/Family.antt: no clause names them.
use Rattle.std.specs.Prelude.{ℕ, ◌==◌, List, [], ◌∷◌, map, if◌then◌else◌}
use Rattle.sqlite_value.specs.Order.{Row}
use Rattle.sqlite_trees.specs.Tree.{Trees}
use Rattle.sqlite_schema.specs.declared.schema.Table.{Table}
use Rattle.sqlite_keyed.specs.Keyed.{insert_by}
use Rattle.lab_store_tables.specs.Sheets.{row_of, table_of}
use Rattle.lab_store_tables.specs.RowRecords.{Tables}
use Rattle.lab_store_tables.specs.Family.{Name, RowOf, kept, rows, Layout, row_by, from_by, id_of, Desk, Labs, Persons, Sessions, Forms, Fields, Choices, Records, Versions, Entries, Signatures, Trail}

abbrev names : List Name
names =
    Desk ∷ Labs ∷ Persons ∷ Sessions ∷ Forms ∷ Fields ∷ Choices ∷ Records ∷ Versions ∷ Entries ∷ Signatures ∷ Trail ∷ []

abbrev pub with_rows : (k : Name) → List (RowOf k) → Tables → Tables
with_rows Desk new t = record t { desk = new }
with_rows Labs new t = record t { labs = new }
with_rows Persons new t = record t { persons = new }
with_rows Sessions new t = record t { sessions = new }
with_rows Forms new t = record t { forms = new }
with_rows Fields new t = record t { fields = new }
with_rows Choices new t = record t { choices = new }
with_rows Records new t = record t { records = new }
with_rows Versions new t = record t { versions = new }
with_rows Entries new t = record t { entries = new }
with_rows Signatures new t = record t { signatures = new }
with_rows Trail new t = record t { trail = new }

-- and each table's rows in its own tree
abbrev rows_at : Layout → Tables → ℕ → List Name → List Row
rows_at layout t tree [] = []
rows_at layout t tree (k ∷ others) =
    if tree == (layout k).sheet.tree then map (row_by layout k) (rows k t)
    else rows_at layout t tree others

abbrev pub trees_by : Layout → Tables → Trees
trees_by layout t tree = rows_at layout t tree names

abbrev pub table_in : Name → Table
table_in k = table_of (kept k).sheet

abbrev pub tree_of : Name → ℕ
tree_of k = (kept k).sheet.tree

-- a row's columns behind its id
abbrev pub values_of : (k : Name) → RowOf k → Row
values_of k one = row_of (kept k).sheet.columns ((kept k).cells one)

abbrev pub stored_row : (k : Name) → RowOf k → Row
stored_row = row_by kept

abbrev pub read_row : (k : Name) → Row → RowOf k
read_row = from_by kept

abbrev pub trees_of : Tables → Trees
trees_of = trees_by kept

abbrev pub put : (k : Name) → RowOf k → Tables → Tables
put k one t = with_rows k (insert_by (id_of k) (rows k t) one) t
