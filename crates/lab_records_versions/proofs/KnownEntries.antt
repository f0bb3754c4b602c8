-- Values from outside, so that a wrong rule in the definitions does not check: what an entry and an amendment come to by
-- docs/RECORDS.md, each refusal in its turn. No digest is computed: it stands as the `digest_of` a version.
use Rattle.std.proofs.Common.{◌≡◌, refl, ℕ, List, [], ◌∷◌, codes, Some, None, true, false}
use Rattle.std.specs.Prelude.{Option, Ok, Err}
use Rattle.std.specs.Str.{is_utf8, chars}
use lib.Utf8.{encode}
use Rattle.lab_forms_texts.specs.Names.{is_note}
use Rattle.lab_forms.specs.declared.faults.FormRefusal.TheVariants.{NoSuchField, BadValue, WrongUnit, OutOfRange}
use Rattle.lab_forms.specs.declared.forms.Field.{Field}
use Rattle.lab_forms.specs.declared.kinds.Kind.TheVariants.{Number}
use Rattle.lab_forms.specs.Forms.{value_refusal}
use Rattle.lab_forms.specs.Numbers.{is_number, amount, is_unsigned_number, is_digits, without_sign, without_comparison, millionths_of, decimal_value}
use Rattle.lab_seal_versions.specs.declared.rows.EntryRow.{EntryRow}
use Rattle.lab_seal_versions.specs.declared.seals.Meaning.{Meaning}
use Rattle.lab_seal_versions.specs.declared.seals.Meaning.TheVariants.{Authorship, Review}
use Rattle.lab_records_kept.specs.declared.records.FormVersion.{FormVersion}
use Rattle.lab_records_kept.specs.declared.records.Record.{Record}
use Rattle.lab_records_kept.specs.declared.records.Signature.{Signature}
use Rattle.lab_records_kept.specs.declared.records.Version.{Version}
use Rattle.lab_records_kept.specs.Digests.{digest_of}
use Rattle.lab_records_kept.proofs.KnownDefaults.{bare_entry, bare_field, bare_form, bare_record, bare_signature, bare_version}
use Rattle.lab_records_rules.specs.declared.items.Item.{Item}
use Rattle.lab_records_rules.specs.declared.refusals.Refusal.TheVariants.{Form, NoSuchRecord, NotOpen, ReasonWanted, NothingAltered, NotAltered, AmendmentOpen}
use Rattle.lab_records_rules.specs.Making.{first_version}
use Rattle.lab_records_versions.specs.Entering.{entering, amending, is_table_made}

-- ---- record 1 of the form water, of which lead is asked, in mg/L with two decimals, from 0 on

abbrev lead : Field
lead = record bare_field { key = codes "lead"; label = codes "Lead"; required = true; kind = Number (codes "mg/L") 2 (Some (codes "0")) None }

abbrev water : FormVersion
water = record bare_form { code = codes "water"; version = 1; form = record { fields = lead ∷ []; approval = false } }

abbrev row : List ℕ → ℕ → Option (List ℕ) → EntryRow
row value moment reason = record bare_entry {
  key = codes "lead";
  value = value;
  unit = codes "mg/L";
  person = codes "dan";
  moment = moment;
  reason = reason;
}

abbrev signature : List ℕ → Meaning → Signature
signature person meaning = record bare_signature { person = person; name = person; meaning = meaning; moment = 1300 }

-- its version 1, which dan opened, with these rows and signatures
abbrev version : List EntryRow → List Signature → Version
version rows signatures = record (first_version false (codes "dan") 1000) { rows = rows; signatures = signatures }

abbrev about : Version → Record
about kept = record bare_record { number = 1; form = water; sample = codes "S1"; versions = kept ∷ [] }

abbrev empty : Version
empty = version [] []

abbrev entered : Version
entered = version (row (codes "7.50") 1100 None ∷ []) []

abbrev signed : Version
signed = version (row (codes "7.50") 1100 None ∷ []) (signature (codes "dan") Authorship ∷ [])

abbrev released : Version
released = version (row (codes "7.50") 1100 None ∷ [])
    (signature (codes "dan") Authorship ∷ signature (codes "eve") Review ∷ [])

abbrev item : List ℕ → List ℕ → List ℕ → Item
item key value unit = record { key = key; value = value; unit = unit }

abbrev lead_of : List ℕ → Item
lead_of value = item (codes "lead") value (codes "mg/L")

-- ---- entries

-- into a record that is there, while its last version is open; a key of the form, a value that fits its field, in its unit
pub known_refusals : (entering (codes "aqua") None (lead_of (codes "7.50")) None (codes "dan") 1100 ≡ Err NoSuchRecord)
    × (entering (codes "aqua") (Some (about signed)) (lead_of (codes "7.5")) (Some (codes "misread")) (codes "dan") 1400 ≡ Err NotOpen)
    × (entering (codes "aqua") (Some (about released)) (lead_of (codes "7.5")) (Some (codes "misread")) (codes "dan") 1400 ≡ Err NotOpen)
    × (entering (codes "aqua") (Some (about empty)) (item (codes "zinc") (codes "7.5") (codes "mg/L")) None (codes "dan") 1100
    ≡ Err (Form NoSuchField))
    × (entering (codes "aqua") (Some (about empty)) (lead_of (codes "7.505")) None (codes "dan") 1100 ≡ Err (Form BadValue))
    × (entering (codes "aqua") (Some (about empty)) (item (codes "lead") (codes "7.50") (codes "g/L")) None (codes "dan") 1100
    ≡ Err (Form WrongUnit))
    × (entering (codes "aqua") (Some (about empty)) (lead_of (codes "-1")) None (codes "dan") 1100 ≡ Err (Form OutOfRange))
unfolding value_refusal is_note is_utf8 chars encode is_number amount is_unsigned_number is_digits without_sign without_comparison millionths_of decimal_value
known_refusals = (refl, refl, refl, refl, refl, refl, refl)

-- the first value of a key needs no reason, and every later one does; the row bears who entered it and when
pub known_entries : (entering (codes "aqua") (Some (about empty)) (lead_of (codes "7.50")) None (codes "dan") 1100
    ≡ Ok (record { number = 1; version = 1; row = row (codes "7.50") 1100 None; rows = 1; digest = digest_of (codes "aqua") (about empty) entered }))
    × (entering (codes "aqua") (Some (about entered)) (lead_of (codes "7.5")) None (codes "dan") 1200 ≡ Err ReasonWanted)
    × (entering (codes "aqua") (Some (about entered)) (lead_of (codes "7.5")) (Some (codes "misread")) (codes "dan") 1200
    ≡ Ok (record {
      number = 1;
      version = 1;
      row = row (codes "7.5") 1200 (Some (codes "misread"));
      rows = 2;
      digest = digest_of (codes "aqua") (about entered)
          (version (row (codes "7.50") 1100 None ∷ row (codes "7.5") 1200 (Some (codes "misread")) ∷ []) []);
    }))
unfolding value_refusal is_note is_utf8 chars encode is_number amount is_unsigned_number is_digits without_sign without_comparison millionths_of decimal_value
known_entries = (refl, refl, refl)

-- ---- amendments

-- of a record that is there, once its last version is released or rejected; with a reason, of something, which differs from what stands
pub known_unamended : (amending (codes "aqua") None (Some (codes "misread")) (lead_of (codes "7.5") ∷ []) (codes "dan") 1500 ≡ Err NoSuchRecord)
    × (amending (codes "aqua") (Some (about entered)) (Some (codes "misread")) (lead_of (codes "7.5") ∷ []) (codes "dan") 1500
    ≡ Err AmendmentOpen)
    × (amending (codes "aqua") (Some (about signed)) (Some (codes "misread")) (lead_of (codes "7.5") ∷ []) (codes "dan") 1500
    ≡ Err AmendmentOpen)
    × (amending (codes "aqua") (Some (about released)) None (lead_of (codes "7.5") ∷ []) (codes "dan") 1500 ≡ Err ReasonWanted)
    × (amending (codes "aqua") (Some (about released)) (Some (codes "misread")) [] (codes "dan") 1500 ≡ Err NothingAltered)
    × (amending (codes "aqua") (Some (about released)) (Some (codes "misread")) (lead_of (codes "7.50") ∷ []) (codes "dan") 1500
    ≡ Err (NotAltered (codes "lead")))
    × (amending (codes "aqua") (Some (about released)) (Some (codes "misread"))
    (item (codes "zinc") (codes "7.5") (codes "mg/L") ∷ lead_of (codes "7.50") ∷ []) (codes "dan") 1500 ≡ Err (Form NoSuchField))
unfolding value_refusal is_note is_utf8 chars encode is_number amount is_unsigned_number is_digits without_sign without_comparison millionths_of decimal_value
known_unamended = (refl, refl, refl, refl, refl, refl, refl)

-- version 2, which dan opened at 1500: it names the digest of version 1, and each of its rows bears the reason
abbrev second : Version
second = record bare_version {
  format = released.format;
  origin = record {
    number = 2;
    amendment = Some (record { previous = digest_of (codes "aqua") (about released) released; reason = codes "misread" });
  };
  opener = codes "dan";
  opened = 1500;
  rows = row (codes "7.5") 1500 (Some (codes "misread")) ∷ [];
}

pub known_amendment : amending (codes "aqua") (Some (about released)) (Some (codes "misread")) (lead_of (codes "7.5") ∷ []) (codes "dan") 1500
    ≡ Ok (record { number = 1; version = second; digest = digest_of (codes "aqua") (about released) second })
unfolding value_refusal is_note is_utf8 chars encode is_number amount is_unsigned_number is_digits without_sign without_comparison millionths_of decimal_value
known_amendment = refl

-- the table is made once there is a reason, and something that is altered
pub known_tables : (is_table_made None (Some (codes "misread")) (lead_of (codes "7.5") ∷ []) ≡ false)
    × (is_table_made (Some (about signed)) (Some (codes "misread")) (lead_of (codes "7.5") ∷ []) ≡ false)
    × (is_table_made (Some (about released)) None (lead_of (codes "7.5") ∷ []) ≡ false)
    × (is_table_made (Some (about released)) (Some (codes "misread")) [] ≡ false)
    × (is_table_made (Some (about released)) (Some (codes "misread")) (lead_of (codes "7.50") ∷ []) ≡ true)
known_tables = (refl, refl, refl, refl, refl)
