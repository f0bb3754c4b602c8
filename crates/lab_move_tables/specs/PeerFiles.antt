-- Files of schema 2 in the other style: the tables aren't STRICT, and a reason that isn't there is
-- an empty text, and never NULL. Another program wrote such files by the same rules.
use Rattle.std.specs.Prelude.{ℕ, ℤ, false, List, [], ◌∷◌, map, Option, Some, unwrap_or, codes}
use Rattle.sqlite_schema.specs.declared.schema.Kind.{Kind}
use Rattle.sqlite_schema.specs.declared.schema.Kind.TheVariants.{Blob, Any}
use Rattle.sqlite_schema.specs.declared.schema.Column.{Column}
use Rattle.sqlite_schema.specs.declared.schema.Table.{Table}
use Rattle.sqlite_schema.specs.declared.schema.Schema.{Schema}
use Rattle.sqlite.specs.Effect.{Database}
use Rattle.lab_store_tables.specs.RowRecords.{VersionRow, EntryRow, SignatureRow}
use Rattle.lab_store_tables.specs.Sheets.{Number, Words, Octets, Sheet, Cells, table_of}
use Rattle.lab_store_tables.specs.Descriptions.{given, leads}
use Rattle.lab_store_tables.specs.Family.{Name, Desk, Labs, Persons, Sessions, Forms, Fields, Choices, Records, Versions, Entries, Signatures, Trail, Layout}
use Rattle.lab_move_tables.specs.OldSchema.{old_schema}
use Rattle.lab_move_tables.specs.OldSheets.{before, said_in}
use Rattle.lab_move_tables.specs.OldRows.{IsFileOf}
use Rattle.lab_move_tables.specs.declared.older.Older.TheVariants.{Two}

-- ---- the tables with a reason

abbrev pub peer_versions : Sheet
peer_versions = record {
  name = codes "versions";
  tree = 18;
  columns = leads (codes "record") (codes "records")
      ∷ given (codes "number") Number
      ∷ leads (codes "opener") (codes "persons")
      ∷ given (codes "opened") Number
      ∷ given (codes "reason") Words
      ∷ [];
  uniques = (codes "record" ∷ codes "number" ∷ []) ∷ [];
}

abbrev pub peer_entries : Sheet
peer_entries = record {
  name = codes "entries";
  tree = 20;
  columns = leads (codes "version") (codes "versions")
      ∷ given (codes "place") Number
      ∷ given (codes "key") Words
      ∷ given (codes "value") Words
      ∷ given (codes "unit") Words
      ∷ leads (codes "person") (codes "persons")
      ∷ given (codes "moment") Number
      ∷ given (codes "reason") Words
      ∷ [];
  uniques = (codes "version" ∷ codes "place" ∷ []) ∷ [];
}

abbrev pub peer_signatures : Sheet
peer_signatures = record {
  name = codes "signatures";
  tree = 22;
  columns = leads (codes "version") (codes "versions")
      ∷ given (codes "place") Number
      ∷ leads (codes "person") (codes "persons")
      ∷ given (codes "name") Words
      ∷ given (codes "meaning") Words
      ∷ given (codes "moment") Number
      ∷ given (codes "reason") Words
      ∷ given (codes "digest") Octets
      ∷ given (codes "seal") Octets
      ∷ [];
  uniques = (codes "version" ∷ codes "place" ∷ []) ∷ (codes "version" ∷ codes "meaning" ∷ []) ∷ [];
}

-- ---- their rows

abbrev pub words : Option (List ℕ) → List ℕ
words reason = unwrap_or reason []

abbrev peer_version_cells : VersionRow → Cells peer_versions.columns
peer_version_cells one = (one.kept, (one.number, (one.opener, (one.opened, (words one.reason, tt)))))

abbrev peer_version_make : ℤ → Cells peer_versions.columns → VersionRow
peer_version_make id x = record {
  id = id;
  kept = x.0;
  number = x.1.0;
  format = 1;
  opener = x.1.1.0;
  opened = x.1.1.1.0;
  reason = said_in (Some (x.1.1.1.1.0));
}

abbrev peer_entry_cells : EntryRow → Cells peer_entries.columns
peer_entry_cells one = (one.version, (one.place, (one.key, (one.value, (one.unit, (one.person, (one.moment, (words one.reason, tt))))))))

abbrev peer_entry_make : ℤ → Cells peer_entries.columns → EntryRow
peer_entry_make id x = record {
  id = id;
  version = x.0;
  place = x.1.0;
  key = x.1.1.0;
  value = x.1.1.1.0;
  unit = x.1.1.1.1.0;
  person = x.1.1.1.1.1.0;
  moment = x.1.1.1.1.1.1.0;
  reason = said_in (Some (x.1.1.1.1.1.1.1.0));
}

abbrev peer_signature_cells : SignatureRow → Cells peer_signatures.columns
peer_signature_cells one = (one.version, (one.place, (one.person, (one.name, (one.meaning, (one.moment, (words one.reason, (one.digest, (one.seal, tt)))))))))

abbrev peer_signature_make : ℤ → Cells peer_signatures.columns → SignatureRow
peer_signature_make id x = record {
  id = id;
  version = x.0;
  place = x.1.0;
  person = x.1.1.0;
  name = x.1.1.1.0;
  meaning = x.1.1.1.1.0;
  moment = x.1.1.1.1.1.0;
  reason = said_in (Some (x.1.1.1.1.1.1.0));
  digest = x.1.1.1.1.1.1.1.0;
  seal = x.1.1.1.1.1.1.1.1.0;
}

-- how such a file keeps each table
abbrev pub peer : Layout
peer Versions = record { sheet = peer_versions; id = λ one. one.id; cells = peer_version_cells; make = peer_version_make }
peer Entries = record { sheet = peer_entries; id = λ one. one.id; cells = peer_entry_cells; make = peer_entry_make }
peer Signatures = record { sheet = peer_signatures; id = λ one. one.id; cells = peer_signature_cells; make = peer_signature_make }
peer k = before k

-- ---- the schema

-- without STRICT, where a column of BLOB takes each value as it is
abbrev loose_kind : Kind → Kind
loose_kind Blob = Any
loose_kind kind = kind

abbrev loose_column : Column → Column
loose_column one = record one { kind = loose_kind one.kind; is_strict = false }

abbrev pub loose : Table → Table
loose one = record one { columns = map loose_column one.columns }

abbrev loose_table : Name → Table
loose_table k = loose (table_of (peer k).sheet)

abbrev pub peer_schema : Schema
peer_schema = record old_schema {
  tables = loose_table Desk ∷ loose_table Labs ∷ loose_table Persons ∷ loose_table Sessions
      ∷ loose_table Forms ∷ loose_table Fields ∷ loose_table Choices ∷ loose_table Records
      ∷ loose_table Versions ∷ loose_table Entries ∷ loose_table Signatures ∷ loose_table Trail ∷ [];
}

-- such a file, whose rows are of their types, and which keeps its own rules
abbrev pub IsPeerFile : Database → Type 0
IsPeerFile = IsFileOf Two peer_schema peer
