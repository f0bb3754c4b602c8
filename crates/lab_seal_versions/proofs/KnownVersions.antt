-- Values from outside, so that a wrong rule in the definitions does not check.
use Rattle.std.proofs.Common.{◌≡◌, refl, [], ◌∷◌, false, None}
use Rattle.std.specs.Fmt.{digits}
use Rattle.std.specs.Prelude.{codes}
use Rattle.lab_forms_texts.specs.Calendar.{span_of, place_of, place_in_year, year_of, month_of, day_of_month, hour_of, minute_of, second_of}
use Rattle.lab_forms_texts.specs.Moment.{moment_text}
use Rattle.lab_seal_versions.specs.Versions.{item, heading_text, subject_text, origin_text, opening_text, row_text, front_text, version_text}
use Rattle.lab_seal_versions.specs.declared.rows.EntryRow.{EntryRow}
use Rattle.lab_seal_versions.specs.declared.versions.Format.{Format}
use Rattle.lab_seal_versions.specs.declared.versions.Format.TheVariants.{One, Two}
use Rattle.lab_seal_versions.specs.declared.versions.VersionParts.{VersionParts}

abbrev row : EntryRow
row = record {
  key = codes "lead";
  value = codes "7.50";
  unit = codes "mg/L";
  person = codes "dan";
  moment = 1100;
  reason = None;
}

abbrev version : Format → VersionParts
version format = record {
  format = format;
  lab = codes "aqua";
  record_number = 1;
  origin = record { number = 1; amendment = None };
  form = codes "water";
  form_version = 1;
  sample = codes "S1";
  opener = codes "dan";
  opened = 1000;
  rows = row ∷ [];
}

-- 142 bytes in format 1, and 147 in format 2
pub known_texts : (version_text (version One)
    ≡ codes "11:labrecord 1\n4:aqua\n1:1\n1:1\n5:water\n1:1\n2:S1\n1:-\n0:\n3:dan\n20:1970-01-01T00:16:40Z\n1:1\n4:lead\n4:7.50\n4:mg/L\n3:dan\n20:1970-01-01T00:18:20Z\n0:\n")
    × (version_text (version (Two false))
    ≡ codes "11:labrecord 2\n4:aqua\n1:1\n1:1\n5:water\n1:1\n2:no\n2:S1\n1:-\n0:\n3:dan\n20:1970-01-01T00:16:40Z\n1:1\n4:lead\n4:7.50\n4:mg/L\n3:dan\n20:1970-01-01T00:18:20Z\n0:\n")
unfolding version_text front_text heading_text subject_text origin_text opening_text row_text item digits moment_text year_of place_in_year month_of day_of_month hour_of minute_of second_of span_of place_of
known_texts = (refl, refl)
