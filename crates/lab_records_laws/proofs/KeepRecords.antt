-- Records stay as they are where they are entered in, opened anew and signed.
use Rattle.std.proofs.Common.{◌≡◌, ◌≢◌, ℕ, suc, ◌-◌, Bool, true, false, cond, List, [], ◌∷◌, ◌++◌, length, map, Option, Some, refl, sym, ◌∙◌, ap, subst, arith}
use Rattle.std.specs.Prelude.{◌==◌, slice_get}
use Rattle.std.proofs.lemmas.Bool.Decides.{Decides-eqb}
use Rattle.lab_seal_versions.specs.declared.rows.EntryRow.{EntryRow}
use Rattle.lab_seal_versions.specs.declared.seals.Meaning.{Meaning}
use Rattle.lab_seal_versions.specs.declared.seals.Meaning.TheVariants.{Authorship, Review, Rejection, Approval}
use Rattle.lab_seal_versions.specs.States.{state_of}
use Rattle.lab_records_kept.specs.declared.records.Record.{Record}
use Rattle.lab_records_kept.specs.declared.records.Version.{Version}
use Rattle.lab_records_kept.specs.declared.records.Signature.{Signature}
use Rattle.lab_records_kept.specs.Values.{meaning_of, version_state}
use Rattle.lab_records_kept.specs.Lookups.{has_number, is_numbered, record_of, last_of}
use Rattle.lab_records_kept.specs.Changes.{in_record, in_version, in_last, with_row, with_signature, entered_in, signed_in, opened_in}
use Rattle.lab_records_kept.specs.Keeping.{Extends, KeepsRows, KeepsVersion, KeepsRecord}
use Rattle.lab_records_versions.specs.Entering.{is_open}
use Rattle.lab_records_laws.proofs.KeepLists.{extends_itself, extends_more, prefix_itself, prefix_more}

-- ---- versions

rows_itself : (signatures : List Signature) (rows : List EntryRow) → KeepsRows signatures rows rows
rows_itself [] rows = prefix_itself rows
rows_itself (one ∷ others) rows = refl

pub version_itself : (version : Version) → KeepsVersion version version
version_itself version = record {
  format = refl;
  origin = refl;
  opener = refl;
  opened = refl;
  rows = rows_itself version.signatures version.rows;
  signatures = prefix_itself version.signatures;
}

signed_keeps : (signature : Signature) (version : Version)
    → KeepsVersion version (with_signature signature version)
signed_keeps signature version = record {
  format = refl;
  origin = refl;
  opener = refl;
  opened = refl;
  rows = rows_itself version.signatures version.rows;
  signatures = prefix_more version.signatures (signature ∷ []);
}

row_keeps : (row : EntryRow) (version : Version) → version.signatures ≡ []
    → KeepsVersion version (with_row row version)
row_keeps row version none = record {
  format = refl;
  origin = refl;
  opener = refl;
  opened = refl;
  rows =
      subst (λ signatures. KeepsRows signatures version.rows (version.rows ++ row ∷ [])) (sym none)
      (prefix_more version.rows (row ∷ []));
  signatures = prefix_itself version.signatures;
}

versions_itself : (versions : List Version) → Extends KeepsVersion versions versions
versions_itself versions = extends_itself KeepsVersion version_itself versions

in_version_by : (is : Bool) (signature : Signature) (one : Version) (others rest : List Version)
    → Extends KeepsVersion others rest
    → Extends KeepsVersion (one ∷ others)
    (cond is (with_signature signature one ∷ others) (one ∷ rest))
in_version_by true signature one others rest more =
    (signed_keeps signature one, versions_itself others)
in_version_by false signature one others rest more = (version_itself one, more)

in_version_keeps : (number : ℕ) (signature : Signature) (versions : List Version)
    → Extends KeepsVersion versions (in_version number (with_signature signature) versions)
in_version_keeps number signature [] = tt
in_version_keeps number signature (one ∷ others) =
    in_version_by (is_numbered number one) signature one others
    (in_version number (with_signature signature) others) (in_version_keeps number signature others)

-- the last of more than one is the last of the others
last_later : (one other : Version) (others : List Version)
    → last_of (one ∷ other ∷ others) ≡ last_of (other ∷ others)
last_later one other others =
    let before : length (one ∷ other ∷ others) - 1 ≡ suc (length others) = omega arith in
    let after : length (other ∷ others) - 1 ≡ length others = omega arith in
    ap (slice_get (one ∷ other ∷ others)) before ∙ sym (ap (slice_get (other ∷ others)) after)

in_last_keeps : (row : EntryRow) (versions : List Version) (last : Version)
    → last_of versions ≡ Some last → last.signatures ≡ []
    → Extends KeepsVersion versions (in_last (with_row row) versions)
in_last_keeps row [] last h none = tt
in_last_keeps row (one ∷ []) last h none =
    let same : last ≡ one = cc in
    (row_keeps row one (subst (λ it. it.signatures ≡ []) same none), tt)
in_last_keeps row (one ∷ other ∷ others) last h none = (
  version_itself one,
  in_last_keeps row (other ∷ others) last (sym (last_later one other others) ∙ h) none,
)

-- ---- records

pub record_itself : (kept : Record) → KeepsRecord kept kept
record_itself kept = record {
  number = refl;
  form = refl;
  sample = refl;
  versions = versions_itself kept.versions;
}

pub records_itself : (records : List Record) → Extends KeepsRecord records records
records_itself records = extends_itself KeepsRecord record_itself records

pub records_more : (records more : List Record) → Extends KeepsRecord records (records ++ more)
records_more records more = extends_more KeepsRecord record_itself records more

pub signed_in_keeps : (number : ℕ) (signature : Signature) (kept : Record)
    → KeepsRecord kept (signed_in number signature kept)
signed_in_keeps number signature kept = record {
  number = refl;
  form = refl;
  sample = refl;
  versions = in_version_keeps number signature kept.versions;
}

pub opened_in_keeps : (version : Version) (kept : Record)
    → KeepsRecord kept (opened_in version kept)
opened_in_keeps version kept = record {
  number = refl;
  form = refl;
  sample = refl;
  versions = extends_more KeepsVersion version_itself kept.versions (version ∷ []);
}

pub entered_in_keeps : (row : EntryRow) (kept : Record) (last : Version)
    → last_of kept.versions ≡ Some last → last.signatures ≡ []
    → KeepsRecord kept (entered_in row kept)
entered_in_keeps row kept last h none = record {
  number = refl;
  form = refl;
  sample = refl;
  versions = in_last_keeps row kept.versions last h none;
}

in_record_by : (is : Bool) (next : Record → Record) (one old : Record) (others rest : List Record)
    (found : Option Record) → cond is (Some one) found ≡ Some old → KeepsRecord old (next old)
    → (found ≡ Some old → Extends KeepsRecord others rest)
    → Extends KeepsRecord (one ∷ others) (cond is (next one ∷ others) (one ∷ rest))
in_record_by true next one old others rest found h keeps more =
    let same : old ≡ one = cc in
    (subst (λ it. KeepsRecord it (next it)) same keeps, records_itself others)
in_record_by false next one old others rest found h keeps more = (record_itself one, more h)

-- what is done to a record that keeps it keeps all
pub in_record_keeps : (number : ℕ) (next : Record → Record) (records : List Record) (old : Record)
    → record_of records number ≡ Some old → KeepsRecord old (next old)
    → Extends KeepsRecord records (in_record number next records)
in_record_keeps number next [] old h keeps = tt
in_record_keeps number next (one ∷ others) old h keeps =
    in_record_by (has_number number one) next one old others (in_record number next others)
    (record_of others number) h keeps (λ there. in_record_keeps number next others old there keeps)

number_by : (is : Bool) (one old : Record) (rest : Option Record) (number : ℕ)
    → (one.number == number) ≡ is → cond is (Some one) rest ≡ Some old
    → (rest ≡ Some old → old.number ≡ number) → old.number ≡ number
number_by true one old rest number is h next =
    let same : one ≡ old = cc in
    ap (λ it. it.number) (sym same) ∙ (Decides-eqb one.number number).0 is
number_by false one old rest number is h next = next h

-- a record that is found by a number has it
pub found_number : (records : List Record) (number : ℕ) (kept : Record)
    → record_of records number ≡ Some kept → kept.number ≡ number
found_number [] number kept h = absurd (cc)
found_number (one ∷ others) number kept h =
    number_by (has_number number one) one kept (record_of others number) number refl h
    (found_number others number kept)

-- ---- open versions

-- no signature leaves a version open
never_open : (first : Meaning) (others : List Meaning) (approval : Bool)
    → is_open (state_of (first ∷ others) approval) ≢ true
never_open Review others approval h = absurd (cc)
never_open (Rejection reason) others approval h = absurd (cc)
never_open Approval others approval h = absurd (cc)
never_open Authorship [] approval h = absurd (cc)
never_open Authorship (Authorship ∷ more) approval h = absurd (cc)
never_open Authorship (Approval ∷ more) approval h = absurd (cc)
never_open Authorship (Rejection reason ∷ []) approval h = absurd (cc)
never_open Authorship (Rejection reason ∷ one ∷ more) approval h = absurd (cc)
never_open Authorship (Review ∷ []) true h = absurd (cc)
never_open Authorship (Review ∷ []) false h = absurd (cc)
never_open Authorship (Review ∷ Authorship ∷ more) true h = absurd (cc)
never_open Authorship (Review ∷ Authorship ∷ more) false h = absurd (cc)
never_open Authorship (Review ∷ Review ∷ more) true h = absurd (cc)
never_open Authorship (Review ∷ Review ∷ more) false h = absurd (cc)
never_open Authorship (Review ∷ Approval ∷ []) true h = absurd (cc)
never_open Authorship (Review ∷ Approval ∷ []) false h = absurd (cc)
never_open Authorship (Review ∷ Approval ∷ one ∷ more) true h = absurd (cc)
never_open Authorship (Review ∷ Approval ∷ one ∷ more) false h = absurd (cc)
never_open Authorship (Review ∷ Rejection reason ∷ []) true h = absurd (cc)
never_open Authorship (Review ∷ Rejection reason ∷ []) false h = absurd (cc)
never_open Authorship (Review ∷ Rejection reason ∷ one ∷ more) true h = absurd (cc)
never_open Authorship (Review ∷ Rejection reason ∷ one ∷ more) false h = absurd (cc)

none_by : (signatures : List Signature) (approval : Bool)
    → is_open (state_of (map meaning_of signatures) approval) ≡ true → signatures ≡ []
none_by [] approval h = refl
none_by (one ∷ others) approval h =
    absurd (never_open one.meaning (map meaning_of others) approval h)

-- an open version has no signature
pub open_unsigned : (kept : Record) (version : Version)
    → is_open (version_state kept version) ≡ true
    → version.signatures ≡ []
open_unsigned kept version h = none_by version.signatures kept.form.form.approval h
