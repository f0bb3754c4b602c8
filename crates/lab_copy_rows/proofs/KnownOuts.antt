-- Values from outside, so that a wrong rule in the definitions does not check: what a copy begins with, as Python's csv writes it,
-- what is counted, and what of a text went out where a writer failed.
use Rattle.std.proofs.Common.{◌≡◌, refl, [], ◌∷◌, Some}
use Rattle.std.specs.Prelude.{codes}
use Rattle.std.specs.Fmt.{digits}
use Rattle.csv.specs.Writing.{fields_text, is_blank, escaped}
use Rattle.lab_forms_texts.specs.Calendar.{span_of, place_of, place_in_year, year_of, month_of, day_of_month, hour_of, minute_of, second_of}
use Rattle.lab_forms_texts.specs.Moment.{moment_text}
use Rattle.lab_copy_rows.specs.declared.lines.CopyLine.{CopyLine}
use Rattle.lab_copy_rows.specs.declared.lines.Edition.TheVariants as edition
use Rattle.lab_copy_rows.specs.Outs.{counted, no_counts, one_more, start_text}

-- the records from 3 to 5 of a laboratory whose name has a comma and quotes
abbrev asked : CopyLine
asked = record {
  edition = edition.Two;
  lab = codes "aqua";
  from = 3;
  to = 5;
  person = Some (codes "hal");
  name = codes "Aqua, \"the\" Lab";
  moment = 5000;
}

-- RFC 4180: a field with a comma or quotes stands within quotes, and its quotes are doubled
pub known_start : start_text asked
    ≡ codes "kind,lab,record,version,key,value,unit,person,name,moment,reason,digest,seal\ncopy,aqua,3,5,2,,,hal,\"Aqua, \"\"the\"\" Lab\",1970-01-01T01:23:20Z,,,\n"
unfolding fields_text is_blank escaped digits moment_text year_of place_in_year month_of day_of_month hour_of minute_of second_of span_of place_of
known_start = refl

-- a row counts for its own kind alone, and the copy and end rows for none
pub known_counts : (counted no_counts (codes "entry" ∷ codes "aqua" ∷ []) ≡ record { records = 0; versions = 0; entries = 1; signatures = 0 })
    × (counted no_counts (codes "record" ∷ []) ≡ record { records = 1; versions = 0; entries = 0; signatures = 0 })
    × (counted no_counts (codes "copy" ∷ []) ≡ no_counts) × (counted no_counts (codes "end" ∷ []) ≡ no_counts)
    × (counted no_counts (codes "Entry" ∷ []) ≡ no_counts)
known_counts = (refl, refl, refl, refl, refl)

-- no number of 64 bits is more than the last
pub known_last_count : (one_more 9 ≡ 10) × (one_more 18446744073709551615 ≡ 18446744073709551615)
known_last_count = (refl, refl)
