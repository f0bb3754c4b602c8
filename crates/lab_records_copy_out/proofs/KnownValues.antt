-- Values from outside, so that a wrong rule in the definitions does not check: the text of the copy of two records, whose
-- digests and seals are by Python's hashlib and whose rows by its csv, the walk over their numbers, and numbers of faults.
use Rattle.std.proofs.Common.{◌≡◌, refl, ap, true≢false, ℕ, Bool, true, false, List, [], ◌∷◌, ◌++◌, Option, Some, None}
use Rattle.std.specs.Prelude.{◌==◌, codes, unwrap_or}
use Rattle.std.specs.Fmt.{digits}
use lib.Utf8.{encode}
use Rattle.csv.specs.Writing.{fields_text, is_blank, escaped}
use Rattle.hex.specs.Hex.{decode_pairs, encode_with}
use Rattle.sha2.specs.Sha256.{sha256, hash_after, compress, rounds, schedule, first_words, digest_bytes}
use Rattle.lab_forms_texts.specs.Calendar.{span_of, place_of, place_in_year, year_of, month_of, day_of_month, hour_of, minute_of, second_of}
use Rattle.lab_forms_texts.specs.Moment.{moment_text}
use Rattle.lab_seal_hashes.specs.Digits.{bytes_of_digits}
use Rattle.lab_seal_versions.specs.Versions.{item, heading_text, subject_text, origin_text, opening_text, row_text, front_text, version_text}
use Rattle.lab_seal_versions.specs.declared.rows.EntryRow.{EntryRow}
use Rattle.lab_seal_versions.specs.declared.versions.Format.TheVariants.{Two}
use Rattle.lab_seal_versions.specs.declared.seals.Meaning.{Meaning}
use Rattle.lab_seal_versions.specs.declared.seals.Meaning.TheVariants.{Authorship, Review}
use Rattle.lab_records_kept.specs.declared.labs.Lab.{Lab}
use Rattle.lab_records_kept.specs.declared.records.FormVersion.{FormVersion}
use Rattle.lab_records_kept.specs.declared.records.Record.{Record}
use Rattle.lab_records_kept.specs.declared.records.Signature.{Signature}
use Rattle.lab_records_kept.specs.declared.records.Version.{Version}
use Rattle.lab_records_kept.proofs.KnownDefaults.{bare_entry, bare_form, bare_lab, bare_record, bare_signature, bare_version}
use Rattle.lab_copy_rows.specs.Outs.{counted_all, no_counts}
use Rattle.lab_records_copy_out.specs.Faults.{CopyFaultFits, copy_fault_number, copy_fault_word}
use Rattle.lab_records_copy_out.specs.CopyTexts.{IsWalkable, copy_text, desk_order, numbers_between, walked}
use Rattle.lab_records_copy_out.specs.Private.CopyTexts.{last_walked}
use Rattle.lab_records_copy_out.specs.declared.faults.CopyOutFault.TheVariants.{NoSuchLab, Storage, Memory, Write}

-- ---- two records

-- the bytes of hexadecimal digits
abbrev bytes : List ℕ → List ℕ
bytes written = unwrap_or (bytes_of_digits 32 written) []

abbrev water : ℕ → Bool → FormVersion
water number approval = record bare_form {
  code = codes "water";
  version = number;
  form = record { fields = []; approval = approval };
}

abbrev entry : List ℕ → ℕ → Option (List ℕ) → EntryRow
entry value moment reason = record bare_entry {
  key = codes "lead";
  value = value;
  unit = codes "mg/L";
  person = codes "dan";
  moment = moment;
  reason = reason;
}

abbrev signed : List ℕ → List ℕ → Meaning → ℕ → List ℕ → Signature
signed person name meaning moment seal = record bare_signature {
  person = person;
  name = name;
  meaning = meaning;
  moment = moment;
  digest = bytes (codes "79610b0b80020b06ccc32eb56d5e2930ad6cea239d32569de11013459ebf2b0c");
  seal = bytes seal;
}

-- dan enters a value and signs it, and eve reviews it
abbrev first : List ℕ → Version
first value = record bare_version {
  format = Two false;
  opener = codes "dan";
  opened = 1000;
  rows = entry value 1100 None ∷ [];
  signatures = signed (codes "dan") (codes "Dan Day") Authorship 1200
      (codes "264cbf825abc0622caf3055b4450d7f32efad956706b2101174e01c663b35ec4")
      ∷ signed (codes "eve") (codes "Eve Ems") Review 1210
      (codes "711fb768e707d956a0c92bf004b2807206d8df9f5a1f4ab9b09151f1e35c6275")
      ∷ [];
}

-- dan amends it
abbrev second : Version
second = record bare_version {
  format = Two false;
  origin = record {
    number = 2;
    amendment = Some (record {
      previous = bytes (codes "79610b0b80020b06ccc32eb56d5e2930ad6cea239d32569de11013459ebf2b0c");
      reason = codes "misread: \"7,50\"";
    });
  };
  opener = codes "dan";
  opened = 1220;
  rows = entry (codes "7.5") 1220 (Some (codes "misread: \"7,50\"")) ∷ [];
}

-- nothing is entered yet
abbrev bare : Version
bare = record bare_version { format = Two true; opener = codes "dan"; opened = 1330 }

-- records 1 and 4, of a laboratory
abbrev one : Record
one = record bare_record { number = 1; form = water 1 false; sample = codes "S1"; versions = first (codes "7.50") ∷ second ∷ [] }

abbrev four : Record
four = record bare_record { number = 4; form = water 2 true; sample = codes "S4"; versions = bare ∷ [] }

abbrev laboratory : List Record → Lab
laboratory records = record bare_lab { code = codes "aqua"; name = codes "Aqua Lab"; last = 1330; records = records }

-- ---- the text

-- the copy that is made at the desk's own machine, which names nobody; the end row counts what came
pub known_text : copy_text (desk_order 1 9 5000) (Some (laboratory (one ∷ four ∷ [])))
    ≡ codes "kind,lab,record,version,key,value,unit,person,name,moment,reason,digest,seal\n"
    ++ codes "copy,aqua,1,9,2,,,,Aqua Lab,1970-01-01T01:23:20Z,,,\n"
    ++ codes "record,aqua,1,1,water,S1,,,,,,,\n"
    ++ codes "version,aqua,1,1,2,released,,dan,,1970-01-01T00:16:40Z,,79610b0b80020b06ccc32eb56d5e2930ad6cea239d32569de11013459ebf2b0c,\n"
    ++ codes "entry,aqua,1,1,lead,7.50,mg/L,dan,,1970-01-01T00:18:20Z,,,\n"
    ++ codes "signature,aqua,1,1,,authorship,,dan,Dan Day,1970-01-01T00:20:00Z,,79610b0b80020b06ccc32eb56d5e2930ad6cea239d32569de11013459ebf2b0c,264cbf825abc0622caf3055b4450d7f32efad956706b2101174e01c663b35ec4\n"
    ++ codes "signature,aqua,1,1,,review,,eve,Eve Ems,1970-01-01T00:20:10Z,,79610b0b80020b06ccc32eb56d5e2930ad6cea239d32569de11013459ebf2b0c,711fb768e707d956a0c92bf004b2807206d8df9f5a1f4ab9b09151f1e35c6275\n"
    ++ codes "version,aqua,1,2,2,open,,dan,,1970-01-01T00:20:20Z,\"misread: \"\"7,50\"\"\",db500fad228e3afb7a2e1ff1bb59ab6e98734b6185c1b6229bb258393ab92d1d,\n"
    ++ codes "entry,aqua,1,2,lead,7.5,mg/L,dan,,1970-01-01T00:20:20Z,\"misread: \"\"7,50\"\"\",,\n"
    ++ codes "record,aqua,4,2,water,S4,,,,,,,\n"
    ++ codes "version,aqua,4,1,2,open,,dan,approval,1970-01-01T00:22:10Z,,026e7f0c61f1d00e26f3bf2f8050915c3372ef05e9333e1d398256f40c19afb1,\n"
    ++ codes "end,aqua,2,3,2,2,,,,,,,\n"
unfolding fields_text is_blank escaped moment_text year_of place_in_year month_of day_of_month hour_of minute_of second_of span_of place_of encode digits bytes_of_digits decode_pairs encode_with version_text front_text heading_text subject_text origin_text opening_text row_text item sha256 hash_after compress rounds schedule first_words digest_bytes
known_text = refl

-- of no laboratory nothing goes out, not even a header
pub known_none : copy_text (desk_order 1 9 5000) None ≡ []
known_none = refl

-- ---- the walk

-- so many numbers, from one on: each record once, by ascending numbers, and none of a number that nobody has
pub known_walk : (walked (Some (laboratory (one ∷ four ∷ []))) 1 4 ≡ one ∷ four ∷ [])
    × (walked (Some (laboratory (one ∷ four ∷ []))) 1 3 ≡ one ∷ []) × (walked (Some (laboratory (one ∷ four ∷ []))) 2 2 ≡ [])
    × (walked (Some (laboratory (one ∷ four ∷ []))) 4 1 ≡ four ∷ []) × (walked (Some (laboratory (one ∷ four ∷ []))) 1 0 ≡ [])
    × (walked None 1 4 ≡ [])
known_walk = (refl, refl, refl, refl, refl, refl)

-- a range from 3 to 5 has three numbers, and one that begins behind the last record none
pub known_range : (last_walked 1000000000 4 ≡ 4) × (last_walked 3 4 ≡ 3) × (numbers_between 3 5 ≡ 3)
    × (numbers_between 4 4 ≡ 1) × (numbers_between 5 4 ≡ 0) × (numbers_between 9 4 ≡ 0)
known_range = (refl, refl, refl, refl, refl, refl)

-- rows are counted each by its whole kind
pub known_counts :
    counted_all no_counts ((codes "record" ∷ []) ∷ (codes "version" ∷ []) ∷ (codes "records" ∷ []) ∷ (codes "entry" ∷ []) ∷ (codes "end" ∷ []) ∷ (codes "version" ∷ []) ∷ [])
    ≡ record { records = 1; versions = 2; entries = 1; signatures = 0 }
known_counts = refl

-- a laboratory whose second record has number 4 can't be walked by the numbers from 1 on
pub known_gap : IsWalkable (laboratory (one ∷ four ∷ [])) → ⊥
known_gap it = true≢false (ap (λ number. number == 4) it.numbered.1.0)

-- ---- faults

-- a writer's fault has a word and no number, and it isn't told that a laboratory is missing that is there
pub known_faults : (copy_fault_number NoSuchLab ≡ Some 40) × (copy_fault_word NoSuchLab ≡ codes "no_such_lab")
    × (copy_fault_number Memory ≡ Some 90) × (copy_fault_word Memory ≡ codes "memory")
    × (copy_fault_number Write ≡ None) × (copy_fault_word Write ≡ codes "write_fault")
    × (copy_fault_word Storage ≡ codes "storage") × (CopyFaultFits ⊥ ⊥ (Unit {0}) NoSuchLab → ⊥)
    × CopyFaultFits ⊥ ⊥ (Unit {0}) Write
known_faults = (refl, refl, refl, refl, refl, refl, refl, λ missing. missing, tt)
