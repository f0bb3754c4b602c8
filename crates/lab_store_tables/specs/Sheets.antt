-- A table as a list of columns, and what follows from it: the table in the schema, and a row as it is
-- written and read (ISO/IEC 9075-2, table definitions).
use Rattle.std.specs.Prelude.{ℕ, ℤ, ◌+◌, Bool, true, false, List, [], ◌∷◌, map, Option, Some, None, bytes_eq, codes, if◌then◌else◌}
use Rattle.sqlite_value.specs.declared.keys.Collation.TheVariants.{Binary}
use Rattle.sqlite_value.specs.declared.keys.Order.{Order}
use Rattle.sqlite_value.specs.Keys.{plain}
use Rattle.sqlite_value.specs.declared.value.Value.{Value}
use Rattle.sqlite_value.specs.declared.value.Value.TheVariants.{Null, Int, Text, Blob}
use Rattle.sqlite_value.specs.Order.{Row, column, bytes}
use Rattle.sqlite_schema.specs.declared.schema.Kind as stored
use Rattle.sqlite_schema.specs.declared.schema.Kind.TheVariants as kinds
use Rattle.sqlite_schema.specs.declared.schema.Action.TheVariants.{NoAction}
use Rattle.sqlite_schema.specs.declared.schema.Column.{Column}
use Rattle.sqlite_schema.specs.declared.schema.Reference.{Reference}
use Rattle.sqlite_schema.specs.declared.schema.Table.{Table}
use Rattle.sqlite_rules.specs.Edit.{id_in}
use Rattle.lab_store_tables.specs.Values.{number, flag, optional, number_in, flag_in, optional_in}

-- ---- what a column holds

pub data Content : Type 0 where
  Id : Content
  Number : Content
  Flag : Content
  Words : Content
  Octets : Content

abbrev pub Held : Content → Type 0
Held Id = ℤ
Held Number = ℕ
Held Flag = Bool
Held Words = List ℕ
Held Octets = List ℕ

-- always filled, or with NULL where there is none
abbrev pub HeldIn : Bool → Content → Type 0
HeldIn true content = Held content
HeldIn false content = Option (Held content)

abbrev pub write : (content : Content) → Held content → Value
write Id n = Int n
write Number n = number n
write Flag b = flag b
write Words t = Text t
write Octets b = Blob b

abbrev pub read : (content : Content) → Value → Held content
read Id v = id_in v
read Number v = number_in v
read Flag v = flag_in v
read Words v = bytes v
read Octets v = bytes v

abbrev pub write_in : (needed : Bool) (content : Content) → HeldIn needed content → Value
write_in true content = write content
write_in false content = optional (write content)

abbrev pub read_in : (needed : Bool) (content : Content) → Value → HeldIn needed content
read_in true content = read content
read_in false content = optional_in (read content)

abbrev pub stored_kind : Content → stored.Kind
stored_kind Id = kinds.Integer
stored_kind Number = kinds.Integer
stored_kind Flag = kinds.Integer
stored_kind Words = kinds.Text
stored_kind Octets = kinds.Blob

-- ---- columns and tables

pub record Described : Type 0 where
  pub name : List ℕ
  pub content : Content
  pub needed : Bool
  pub leads : Option (List ℕ)

pub record Sheet : Type 0 where
  pub name : List ℕ
  pub tree : ℕ
  pub columns : List Described
  pub uniques : List (List (List ℕ))

abbrev pub names : List Described → List (List ℕ)
names columns = map (λ (one : Described). one.name) columns

-- ---- a row

abbrev pub Cells : List Described → Type 0
Cells [] = Unit {0}
Cells (c ∷ cs) = HeldIn c.needed c.content × Cells cs

abbrev pub row_of : (cs : List Described) → Cells cs → Row
row_of [] x = []
row_of (c ∷ cs) x = write_in c.needed c.content x.0 ∷ row_of cs x.1

abbrev pub cells_at : (cs : List Described) → ℕ → Row → Cells cs
cells_at [] at row = tt
cells_at (c ∷ cs) at row = (read_in c.needed c.content (column row at), cells_at cs (at + 1) row)

-- ---- the table in the schema

abbrev column_of : Bool → List ℕ → stored.Kind → Column
column_of needed name kind = record {
  name = name;
  kind = kind;
  is_strict = true;
  not_null = needed;
  default = Null;
  collation = Binary;
}

-- the column at a place holds an id of the parent's
abbrev arrow : ℕ → List ℕ → Reference
arrow place parent = record {
  columns = place ∷ [];
  parent = parent;
  parent_columns = codes "id" ∷ [];
  on_delete = NoAction;
  on_update = NoAction;
  is_deferred = false;
}

-- the index of each unique key is in the plain order
abbrev plains : List (List ℕ) → List Order
plains [] = []
plains (one ∷ others) = plain ∷ plains others

-- a table that stands in a tree; behind its id come its columns, of which the first is at place 2
abbrev table : List ℕ → ℕ → List Column → List (List ℕ) → List Reference → Table
table name tree columns uniques references = record {
  name = name;
  tree = tree;
  columns = column_of false (codes "id") kinds.Integer ∷ columns;
  key = Some 0;
  primary = 0 ∷ [];
  uniques = uniques;
  orders = plains uniques;
  checks = [];
  references = references;
  computed = [];
  stamps = record { places = []; terms = []; formats = [] };
  is_counted = false;
}

abbrev pub column_in : Described → Column
column_in one = column_of one.needed one.name (stored_kind one.content)

abbrev arrow_at : ℕ → Option (List ℕ) → List Reference → List Reference
arrow_at place None others = others
arrow_at place (Some parent) others = arrow place parent ∷ others

abbrev arrows : ℕ → List Described → List Reference
arrows place [] = []
arrows place (one ∷ others) = arrow_at place one.leads (arrows (place + 1) others)

abbrev pub place_from : ℕ → List (List ℕ) → List ℕ → ℕ
place_from at [] name = at
place_from at (one ∷ others) name = if bytes_eq one name then at else place_from (at + 1) others name

abbrev pub table_of : Sheet → Table
table_of sheet =
    table sheet.name sheet.tree (map column_in sheet.columns)
    (map (map (place_from 2 (names sheet.columns))) sheet.uniques) (arrows 2 sheet.columns)
