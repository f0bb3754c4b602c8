-- The copy of a laboratory's records (21 CFR 11.10(b): "accurate and complete copies of records in
-- both human readable and electronic form suitable for inspection, review, and copying"): the lines
-- that stand in it, in order. What is in the row of a line is said in lab_copy_rows.
use Rattle.std.specs.Prelude.{ℕ, List, [], ◌∷◌, ◌++◌, map, Option, option_map, unwrap_or}
use Rattle.std.specs.List.{flat_map}
use Rattle.lab_seal_versions.specs.declared.rows.EntryRow.{EntryRow}
use Rattle.lab_seal_versions.specs.declared.states.State.{State}
use Rattle.lab_seal_versions.specs.declared.states.State.TheVariants.{Open}
use Rattle.lab_records_kept.specs.declared.records.Record.{Record}
use Rattle.lab_records_kept.specs.declared.records.Version.{Version}
use Rattle.lab_records_kept.specs.declared.records.Signature.{Signature}
use Rattle.lab_records_kept.specs.declared.labs.Lab.{Lab}
use Rattle.lab_records_kept.specs.Digests.{digest_of, sealed_parts}
use Rattle.lab_records_kept.specs.Lookups.{records_within}
use Rattle.lab_records_kept.specs.Values.{version_state}
use Rattle.lab_copy_rows.specs.Copies.{counts_of}
use Rattle.lab_copy_rows.specs.Rows.{fields_in, header_row, columns_of_line}
use Rattle.lab_copy_rows.specs.declared.lines.Edition.TheVariants.{Two}
use Rattle.lab_copy_rows.specs.declared.lines.Counts.{Counts}
use Rattle.lab_copy_rows.specs.declared.lines.CopyLine.{CopyLine}
use Rattle.lab_copy_rows.specs.declared.lines.RecordLine.{RecordLine}
use Rattle.lab_copy_rows.specs.declared.lines.VersionLine.{VersionLine}
use Rattle.lab_copy_rows.specs.declared.lines.EntryLine.{EntryLine}
use Rattle.lab_copy_rows.specs.declared.lines.SignatureLine.{SignatureLine}
use Rattle.lab_copy_rows.specs.declared.lines.EndLine.{EndLine}
use Rattle.lab_copy_rows.specs.declared.lines.Line.{Line}
use Rattle.lab_copy_rows.specs.declared.lines.Line.TheVariants as line
use Rattle.lab_records_copies.specs.declared.orders.CopyOrder.{CopyOrder}

-- ---- one line of each kind

-- a record, by whose form and for which sample
abbrev pub record_line : List ℕ → Record → RecordLine
record_line lab kept = record {
  lab = lab;
  record_number = kept.number;
  form_version = kept.form.version;
  form = kept.form.code;
  sample = kept.sample;
}

-- the state that a version's signatures make; under dual control they always make one
abbrev pub state_shown : Record → Version → State
state_shown kept version = unwrap_or (version_state kept version) Open

-- why there is another version
abbrev pub reason_of : Version → Option (List ℕ)
reason_of version = option_map (λ amendment. amendment.reason) version.origin.amendment

-- a version as it is now
abbrev pub version_line : List ℕ → Record → Version → VersionLine
version_line lab kept version = record {
  lab = lab;
  record_number = kept.number;
  number = version.origin.number;
  format = version.format;
  state = state_shown kept version;
  opener = version.opener;
  opened = version.opened;
  reason = reason_of version;
  digest = digest_of lab kept version;
}

-- a row of a version
abbrev pub entry_line : List ℕ → Record → Version → EntryRow → EntryLine
entry_line lab kept version row = record {
  lab = lab;
  record_number = kept.number;
  version = version.origin.number;
  row = row;
}

-- a signature of a version, with the seal that is kept
abbrev pub signature_line : List ℕ → Record → Version → Signature → SignatureLine
signature_line lab kept version signature = record {
  record_number = kept.number;
  version = version.origin.number;
  parts = sealed_parts lab signature;
  seal = signature.seal;
}

-- of which records the copy is, for whom, and when it was made
abbrev pub copy_line : List ℕ → List ℕ → CopyOrder → CopyLine
copy_line lab name order = record {
  edition = Two;
  lab = lab;
  from = order.from;
  to = order.to;
  person = order.person;
  name = name;
  moment = order.moment;
}

-- how many lines of each kind there were
abbrev pub end_line : List ℕ → Counts → EndLine
end_line lab counts = record { lab = lab; counts = counts }

-- ---- all lines, in order

-- a version, then its rows, then its signatures
abbrev pub version_lines : List ℕ → Record → Version → List Line
version_lines lab kept version =
    line.Version (version_line lab kept version)
    ∷ map (λ row. line.Entry (entry_line lab kept version row)) version.rows
    ++ map (λ signature. line.Signature (signature_line lab kept version signature))
    version.signatures

-- a record, then its versions
abbrev pub record_lines : List ℕ → Record → List Line
record_lines lab kept =
    line.Record (record_line lab kept) ∷ flat_map (version_lines lab kept) kept.versions

-- records, one after the other
abbrev pub body_lines : List ℕ → List Record → List Line
body_lines lab records = flat_map (record_lines lab) records

-- a copy of these records: what it is of, the records, and how many lines there were
abbrev pub copy_lines : List ℕ → List ℕ → CopyOrder → List Record → List Line
copy_lines lab name order records =
    line.Copy (copy_line lab name order) ∷ body_lines lab records
    ++ line.End (end_line lab (counts_of (body_lines lab records))) ∷ []

-- ---- rows

-- the fields of a line's row, and of the rows of lines
abbrev pub fields_of_line : Line → List (List ℕ)
fields_of_line line = fields_in (columns_of_line line)

abbrev pub rows_of_lines : List Line → List (List (List ℕ))
rows_of_lines lines = map fields_of_line lines

-- the rows of a copy, the header first
abbrev pub copy_rows : List ℕ → List ℕ → CopyOrder → List Record → List (List (List ℕ))
copy_rows lab name order records =
    fields_in header_row ∷ rows_of_lines (copy_lines lab name order records)

-- the copy of a laboratory's records from a number to a number
abbrev pub copy_of : Lab → CopyOrder → List (List (List ℕ))
copy_of lab order =
    copy_rows lab.code lab.name order (records_within order.from order.to lab.records)
