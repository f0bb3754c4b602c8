-- A record of a laboratory in parts, as its copy goes out: its own row, and then the rows of one
-- version after the other (21 CFR 11.10(b), "accurate and complete copies of records").
use Rattle.std.specs.Prelude.{◌≡◌, ℕ, List, [], ◌∷◌, find, Option, option_map}
use Rattle.lab_records_kept.specs.declared.records.Record.{Record}
use Rattle.lab_records_kept.specs.declared.records.Version.{Version}
use Rattle.lab_copy_rows.specs.declared.lines.Line.TheVariants as line
use Rattle.lab_records_copies.specs.CopyLines.{record_line, rows_of_lines, version_lines}
use Rattle.lab_store_tables.specs.Rows.{Tables}
use Rattle.lab_store_tables.specs.Meaning.{form_at, has_code}
use Rattle.lab_store_read_records.specs.declared.heads.LabHead.{LabHead}
use Rattle.lab_store_read_records.specs.declared.heads.RecordHead.{RecordHead}
use Rattle.lab_store_read_records.specs.Heads.{is_record, lab_head, record_head}
use Rattle.lab_store_read_forms.specs.Wholes.{cover_of}
use Rattle.lab_store_read_copies.specs.declared.covers.Cover.{Cover}

-- ---- rows that go out

-- a record's own row
abbrev pub cover_rows : List ℕ → Record → List (List (List ℕ))
cover_rows lab cover = rows_of_lines (line.Record (record_line lab cover) ∷ [])

-- those of a version; of the record all but its versions is read
abbrev pub rows_of_version : List ℕ → Record → Version → List (List (List ℕ))
rows_of_version lab cover version = rows_of_lines (version_lines lab cover version)

-- ---- what is read first

-- the laboratory's own row, where there is one of the code
abbrev pub lab_at : Tables → List ℕ → Option LabHead
lab_at t code = option_map lab_head (find (has_code code) t.labs)

-- the own row of the record of a number, in the laboratory with its row
abbrev pub head_in : Tables → LabHead → ℕ → Option RecordHead
head_in t lab number = option_map record_head (find (is_record lab.id number) t.records)

-- the record without its versions
abbrev pub cover_by : Tables → RecordHead → Record
cover_by t head = cover_of head (form_at t head.form)

-- and by which version of a form it is filled in
abbrev pub filed_by : Tables → RecordHead → Cover
filed_by t head = record { form = head.form; kept = cover_by t head }

-- of a record without its versions the form is the one that the tables have
abbrev pub IsFormed : Tables → Cover → Type 0
IsFormed t cover = cover.kept.form ≡ form_at t cover.form
