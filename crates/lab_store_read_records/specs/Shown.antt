-- The rows that each query shows of the tables, in its order, and what such a row is read as; and
-- the entries of a version, each with its person's code.
use Rattle.std.specs.Prelude.{ℕ, ℤ, List, [], ◌∷◌, map, filter}
use Rattle.std.specs.Ordering.{int_eq}
use Rattle.sqlite_keyed.specs.Lists.{sort_by}
use Rattle.sqlite_value.specs.declared.value.Value.TheVariants.{Int, Text, Blob}
use Rattle.sqlite_value.specs.Order.{Row, column, bytes}
use Rattle.sqlite_rules.specs.Edit.{id_in}
use Rattle.lab_store_tables.specs.Rows.{LabRow, RecordRow, VersionRow, EntryRow, SignatureRow, Tables, number, optional, number_in, optional_in}
use Rattle.lab_store_tables.specs.Meaning.{code_of, has_code, by_version, by_entry, by_signature}
use Rattle.lab_store_read_records.specs.declared.heads.VersionHead.{VersionHead}
use Rattle.lab_store_read_records.specs.declared.heads.RecordHead.{RecordHead}
use Rattle.lab_store_read_records.specs.Heads.{is_record}
use Rattle.lab_store_read_records.specs.declared.heads.LabHead.{LabHead}

abbrev pub lab_shown : LabRow → Row
lab_shown one =
    Int one.id ∷ Text one.code ∷ Text one.name ∷ number one.last ∷ number one.stray
    ∷ number one.records ∷ number one.sessions ∷ number one.trail ∷ []

abbrev pub labs_shown : Tables → List ℕ → List Row
labs_shown t code = map lab_shown (filter (has_code code) t.labs)

abbrev pub lab_read : Row → LabHead
lab_read row = record {
  id = id_in (column row 0);
  code = bytes (column row 1);
  name = bytes (column row 2);
  last = number_in (column row 3);
  strays = number_in (column row 4);
  records = number_in (column row 5);
  sessions = number_in (column row 6);
  trail = number_in (column row 7);
}

-- ---- and with its person's code in the place of the id

abbrev pub entry_shown : Tables → EntryRow → Row
entry_shown t one =
    Text one.key ∷ Text one.value ∷ Text one.unit ∷ Text (code_of t one.person) ∷ number one.moment
    ∷ optional Text one.reason ∷ []

abbrev pub entries_shown : Tables → ℤ → List Row
entries_shown t version =
    map (entry_shown t)
    (sort_by by_entry (filter (λ (one : EntryRow). int_eq one.version version) t.entries))

-- ---- signatures of a version

abbrev pub signature_shown : Tables → SignatureRow → Row
signature_shown t one =
    Text (code_of t one.person) ∷ Text one.name ∷ Text one.meaning ∷ optional Text one.reason
    ∷ number one.moment ∷ Blob one.digest ∷ Blob one.seal ∷ []

abbrev pub signatures_shown : Tables → ℤ → List Row
signatures_shown t version =
    map (signature_shown t)
    (sort_by by_signature
    (filter (λ (one : SignatureRow). int_eq one.version version) t.signatures))

-- ---- versions of a record

abbrev pub version_shown : Tables → VersionRow → Row
version_shown t one =
    Int one.id ∷ number one.number ∷ number one.format ∷ Text (code_of t one.opener)
    ∷ number one.opened ∷ optional Text one.reason ∷ []

abbrev pub versions_shown : Tables → ℤ → List Row
versions_shown t kept =
    map (version_shown t)
    (sort_by by_version (filter (λ (one : VersionRow). int_eq one.kept kept) t.versions))

abbrev pub version_read : Row → VersionHead
version_read row = record {
  id = id_in (column row 0);
  number = number_in (column row 1);
  format = number_in (column row 2);
  opener = bytes (column row 3);
  opened = number_in (column row 4);
  reason = optional_in bytes (column row 5);
}

-- ---- a record of a laboratory

abbrev pub record_shown : RecordRow → Row
record_shown one =
    Int one.id ∷ number one.number ∷ Int one.form ∷ Text one.form_code ∷ Text one.sample
    ∷ number one.current ∷ []

abbrev pub records_shown : Tables → ℤ → ℕ → List Row
records_shown t lab wanted = map record_shown (filter (is_record lab wanted) t.records)

abbrev pub record_head_of : Row → RecordHead
record_head_of row = record {
  id = id_in (column row 0);
  number = number_in (column row 1);
  form = id_in (column row 2);
  form_code = bytes (column row 3);
  sample = bytes (column row 4);
  current = number_in (column row 5);
}
