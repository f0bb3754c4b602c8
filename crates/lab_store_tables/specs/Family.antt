-- The twelve tables by name, and what is said of all of them once.
use Rattle.std.specs.Prelude.{ℤ, List, [], ◌∷◌, map}
use Rattle.sqlite_value.specs.Order.{Row, column}
use Rattle.sqlite_value.specs.declared.value.Value.TheVariants.{Null, Int}
use Rattle.sqlite_trees.specs.Tree.{Trees}
use Rattle.sqlite_rules.specs.Edit.{id_in}
use Rattle.lab_store_tables.specs.Sheets.{Sheet, Cells, row_of, cells_at}
use Rattle.lab_store_tables.specs.RowRecords.{Tables, DeskRow, LabRow, PersonRow, SessionRow, FormRow, FieldRow, ChoiceRow, RecordRow, VersionRow, EntryRow, SignatureRow, TrailRow}
use Rattle.lab_store_tables.specs.Descriptions as sheets
use Rattle.lab_store_tables.specs.Descriptions.{desk_cells, desk_make, lab_cells, lab_make, person_cells, person_make, session_cells, session_make, form_cells, form_make, field_cells, field_make, choice_cells, choice_make, record_cells, record_make, version_cells, version_make, entry_cells, entry_make, signature_cells, signature_make, trail_cells, trail_make}

pub data Name : Type 0 where
  Desk : Name
  Labs : Name
  Persons : Name
  Sessions : Name
  Forms : Name
  Fields : Name
  Choices : Name
  Records : Name
  Versions : Name
  Entries : Name
  Signatures : Name
  Trail : Name

abbrev pub RowOf : Name → Type 0
RowOf Desk = DeskRow
RowOf Labs = LabRow
RowOf Persons = PersonRow
RowOf Sessions = SessionRow
RowOf Forms = FormRow
RowOf Fields = FieldRow
RowOf Choices = ChoiceRow
RowOf Records = RecordRow
RowOf Versions = VersionRow
RowOf Entries = EntryRow
RowOf Signatures = SignatureRow
RowOf Trail = TrailRow

-- a table of rows of a type, described
pub record Kept (X : Type 0) : Type 0 where
  pub sheet : Sheet
  pub id : X → ℤ
  pub cells : X → Cells sheet.columns
  pub make : ℤ → Cells sheet.columns → X

abbrev pub kept : (k : Name) → Kept (RowOf k)
kept Desk = record { sheet = sheets.desk; id = λ one. one.id; cells = desk_cells; make = desk_make }
kept Labs = record { sheet = sheets.labs; id = λ one. one.id; cells = lab_cells; make = lab_make }
kept Persons = record { sheet = sheets.persons; id = λ one. one.id; cells = person_cells; make = person_make }
kept Sessions = record { sheet = sheets.sessions; id = λ one. one.id; cells = session_cells; make = session_make }
kept Forms = record { sheet = sheets.forms; id = λ one. one.id; cells = form_cells; make = form_make }
kept Fields = record { sheet = sheets.fields; id = λ one. one.id; cells = field_cells; make = field_make }
kept Choices = record { sheet = sheets.choices; id = λ one. one.id; cells = choice_cells; make = choice_make }
kept Records = record { sheet = sheets.records; id = λ one. one.id; cells = record_cells; make = record_make }
kept Versions = record { sheet = sheets.versions; id = λ one. one.id; cells = version_cells; make = version_make }
kept Entries = record { sheet = sheets.entries; id = λ one. one.id; cells = entry_cells; make = entry_make }
kept Signatures = record { sheet = sheets.signatures; id = λ one. one.id; cells = signature_cells; make = signature_make }
kept Trail = record { sheet = sheets.trail; id = λ one. one.id; cells = trail_cells; make = trail_make }

abbrev pub rows : (k : Name) → Tables → List (RowOf k)
rows Desk t = t.desk
rows Labs t = t.labs
rows Persons t = t.persons
rows Sessions t = t.sessions
rows Forms t = t.forms
rows Fields t = t.fields
rows Choices t = t.choices
rows Records t = t.records
rows Versions t = t.versions
rows Entries t = t.entries
rows Signatures t = t.signatures
rows Trail t = t.trail

abbrev pub made_of : ((k : Name) → List (RowOf k)) → Tables
made_of all = record {
  desk = all Desk;
  labs = all Labs;
  persons = all Persons;
  sessions = all Sessions;
  forms = all Forms;
  fields = all Fields;
  choices = all Choices;
  records = all Records;
  versions = all Versions;
  entries = all Entries;
  signatures = all Signatures;
  trail = all Trail;
}

abbrev pub empty_tables : Tables
empty_tables = made_of (λ _. [])

-- ---- what follows, for every schema

-- how a schema keeps each table: its columns, and for which row they stand
abbrev pub Layout : Type 0
Layout = (k : Name) → Kept (RowOf k)

abbrev pub row_by : (layout : Layout) (k : Name) → RowOf k → Row
row_by layout k one = Int ((layout k).id one) ∷ Null ∷ row_of (layout k).sheet.columns ((layout k).cells one)

abbrev pub from_by : (layout : Layout) (k : Name) → Row → RowOf k
from_by layout k row = (layout k).make (id_in (column row 0)) (cells_at (layout k).sheet.columns 2 row)

abbrev pub tables_by : Layout → Trees → Tables
tables_by layout trees = made_of (λ k. map (from_by layout k) (trees (layout k).sheet.tree))

-- ---- and for the schema of today

abbrev pub id_of : (k : Name) → RowOf k → ℤ
id_of k = (kept k).id

abbrev pub tables_in : Trees → Tables
tables_in = tables_by kept
