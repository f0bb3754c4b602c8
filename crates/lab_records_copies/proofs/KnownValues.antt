-- Values from outside, so that a wrong rule in the definitions does not check: the rows of docs/COPIES.md, in the order of the
-- header's thirteen fields.
use Rattle.std.proofs.Common.{◌≡◌, refl, ℕ, List, [], ◌∷◌, Some, None}
use Rattle.std.specs.Prelude.{codes}
use Rattle.std.specs.Fmt.{digits}
use Rattle.lab_forms_texts.specs.Calendar.{span_of, place_of, place_in_year, year_of, month_of, day_of_month, hour_of, minute_of, second_of}
use Rattle.lab_forms_texts.specs.Moment.{moment_text}
use Rattle.lab_seal_versions.specs.declared.rows.EntryRow.{EntryRow}
use Rattle.lab_records_kept.specs.declared.records.Record.{Record}
use Rattle.lab_records_kept.specs.declared.records.Version.{Version}
use Rattle.lab_records_kept.proofs.KnownDefaults.{bare_entry}
use Rattle.lab_copy_rows.specs.declared.lines.Line.TheVariants as line
use Rattle.lab_records_copies.specs.declared.orders.CopyOrder.{CopyOrder}
use Rattle.lab_records_copies.specs.CopyLines.{copy_rows, entry_line, fields_of_line, record_line}
use Rattle.lab_records_copies.specs.Private.CopyLines.{counts_in}

-- hal asks for the records from 1 to 5
abbrev asked : CopyOrder
asked = record { from = 1; to = 5; person = Some (codes "hal"); moment = 5000 }

-- the copy of a laboratory that has no such record: the header, what was asked, and that no line was told; nobody is named
-- where the copy is made at the machine itself
pub known_empty_copies : (copy_rows (codes "aqua") (codes "Aqua Lab") asked []
    ≡ (codes "kind" ∷ codes "lab" ∷ codes "record" ∷ codes "version" ∷ codes "key" ∷ codes "value" ∷ codes "unit" ∷ codes "person" ∷ codes "name" ∷ codes "moment" ∷ codes "reason" ∷ codes "digest" ∷ codes "seal" ∷ [])
    ∷ (codes "copy" ∷ codes "aqua" ∷ codes "1" ∷ codes "5" ∷ codes "2" ∷ [] ∷ [] ∷ codes "hal" ∷ codes "Aqua Lab" ∷ codes "1970-01-01T01:23:20Z" ∷ [] ∷ [] ∷ [] ∷ [])
    ∷ (codes "end" ∷ codes "aqua" ∷ codes "0" ∷ codes "0" ∷ codes "0" ∷ codes "0" ∷ [] ∷ [] ∷ [] ∷ [] ∷ [] ∷ [] ∷ [] ∷ []) ∷ [])
    × (copy_rows (codes "aqua") (codes "Aqua Lab") (record asked { person = None }) []
    ≡ (codes "kind" ∷ codes "lab" ∷ codes "record" ∷ codes "version" ∷ codes "key" ∷ codes "value" ∷ codes "unit" ∷ codes "person" ∷ codes "name" ∷ codes "moment" ∷ codes "reason" ∷ codes "digest" ∷ codes "seal" ∷ [])
    ∷ (codes "copy" ∷ codes "aqua" ∷ codes "1" ∷ codes "5" ∷ codes "2" ∷ [] ∷ [] ∷ [] ∷ codes "Aqua Lab" ∷ codes "1970-01-01T01:23:20Z" ∷ [] ∷ [] ∷ [] ∷ [])
    ∷ (codes "end" ∷ codes "aqua" ∷ codes "0" ∷ codes "0" ∷ codes "0" ∷ codes "0" ∷ [] ∷ [] ∷ [] ∷ [] ∷ [] ∷ [] ∷ [] ∷ []) ∷ [])
unfolding digits moment_text year_of place_in_year month_of day_of_month hour_of minute_of second_of span_of place_of
known_empty_copies = (refl, refl)

-- what dan enters, with a reason where the value is another one
abbrev entered : EntryRow
entered = record bare_entry {
  key = codes "lead";
  value = codes "7.50";
  unit = codes "mg/L";
  person = codes "dan";
  moment = 1100;
  reason = Some (codes "misread");
}

-- a record names its form with the form's version, and an entry its record and version
pub known_lines : (kept : Record) (version : Version)
    → (fields_of_line (line.Record (record_line (codes "aqua") (record kept { number = 12; form = record kept.form { code = codes "water"; version = 3 }; sample = codes "S1" })))
    ≡ codes "record" ∷ codes "aqua" ∷ codes "12" ∷ codes "3" ∷ codes "water" ∷ codes "S1" ∷ [] ∷ [] ∷ [] ∷ [] ∷ [] ∷ [] ∷ [] ∷ [])
    × (fields_of_line (line.Entry (entry_line (codes "aqua") (record kept { number = 12 }) (record version { origin = record version.origin { number = 2 } }) entered))
    ≡ codes "entry" ∷ codes "aqua" ∷ codes "12" ∷ codes "2" ∷ codes "lead" ∷ codes "7.50" ∷ codes "mg/L" ∷ codes "dan" ∷ [] ∷ codes "1970-01-01T00:18:20Z" ∷ codes "misread" ∷ [] ∷ [] ∷ [])
unfolding digits moment_text year_of place_in_year month_of day_of_month hour_of minute_of second_of span_of place_of
known_lines kept version = (refl, refl)

-- rows are counted by the whole word of their kind
pub known_counts : counts_in ((codes "record" ∷ []) ∷ (codes "version" ∷ []) ∷ (codes "entry" ∷ []) ∷ (codes "entries" ∷ []) ∷ (codes "entry" ∷ []) ∷ (codes "end" ∷ []) ∷ (codes "version" ∷ []) ∷ (codes "signature" ∷ []) ∷ [])
    ≡ record { records = 1; versions = 2; entries = 2; signatures = 1 }
known_counts = refl
