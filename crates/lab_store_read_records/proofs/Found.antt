-- What was read of the rows that a query shows, as what the tables have.
use Rattle.std.proofs.Common.{◌≡◌, ℕ, ℤ, List, [], ◌∷◌, map, filter, find, slice_get, option_map, refl, ap, ◌∙◌}
use Rattle.sqlite_keyed.proofs.ListLemmas.{slice_get-filter, map-map, map_same}
use Rattle.lab_store_tables.specs.Rows.{LabRow, RecordRow, VersionRow, EntryRow, SignatureRow, Tables}
use Rattle.lab_store_tables.specs.Columns.{meaning_in}
use Rattle.lab_store_tables.specs.Meaning.{has_code, entries_of, signature_in, signatures_of}
use Rattle.lab_store_read.proofs.Found.{text_back}
use Rattle.lab_store_read_records.specs.Heads.{lab_head, is_record, record_head, version_head, versions_of}
use Rattle.lab_store_read_records.specs.Private.Heads.{entry_head, entry_heads_of, entry_by}
use Rattle.lab_seal_versions.specs.declared.rows.EntryRow.{EntryRow as Entry}
use Rattle.lab_records_kept.specs.declared.records.Signature.{Signature}
use Rattle.lab_store_tables.specs.Meaning.{Leaf}
use Rattle.lab_store_read_records.specs.declared.heads.EntryHead.{EntryHead}
use Rattle.lab_store_read_records.specs.declared.heads.VersionHead.{VersionHead}
use Rattle.lab_store_read_records.specs.Leaves.{leaf_by}
use Rattle.lab_store_read_records.specs.Shown.{lab_shown, labs_shown, lab_read, record_shown, records_shown, record_head_of, signature_shown, signatures_shown, version_shown, versions_shown, version_read}
use Rattle.lab_store_read_records.specs.Private.Shown.{own_entry_shown, own_entries_shown, own_entry_read, signature_read}

pub lab_found : (t : Tables) (code : List ℕ) → option_map lab_read (slice_get (labs_shown t code) 0) ≡ option_map lab_head (find (has_code code) t.labs)
lab_found t code = go (filter (has_code code) t.labs) ∙ ap (option_map lab_head) (slice_get-filter (has_code code) t.labs)
  where
    go : (found : List LabRow) → option_map lab_read (slice_get (map lab_shown found) 0) ≡ option_map lab_head (slice_get found 0)
    go [] = refl
    go (one ∷ more) = refl

-- a text that may be NULL is read as it was
entry_back : (one : EntryRow) → own_entry_read (own_entry_shown one) ≡ entry_head one
entry_back one = λ i. record (entry_head one) { reason = text_back one.reason i }

pub entries_found : (t : Tables) (version : ℤ) → map own_entry_read (own_entries_shown t version) ≡ entry_heads_of t version
entries_found t version = map-map own_entry_read own_entry_shown _ ∙ map_same _ _ entry_back _

-- an entry's own row, with the code of whoever entered it
abbrev pub entry_with : EntryHead → List ℕ → Entry
entry_with head person = record {
  key = head.key;
  value = head.value;
  unit = head.unit;
  person = person;
  moment = head.moment;
  reason = head.reason;
}

pub entries_built : (t : Tables) (version : ℤ) → map (entry_by t) (entry_heads_of t version) ≡ entries_of t version
entries_built t version = map-map (entry_by t) entry_head _

signature_back : (t : Tables) (one : SignatureRow) → signature_read (signature_shown t one) ≡ signature_in t one
signature_back t one = λ i. record (signature_in t one) { meaning = meaning_in one.meaning (text_back one.reason i) }

pub signatures_found : (t : Tables) (version : ℤ) → map signature_read (signatures_shown t version) ≡ signatures_of t version
signatures_found t version = map-map signature_read (signature_shown t) _ ∙ map_same _ _ (signature_back t) _

version_back : (t : Tables) (one : VersionRow) → version_read (version_shown t one) ≡ version_head t one
version_back t one = λ i. record (version_head t one) { reason = text_back one.reason i }

pub versions_found : (t : Tables) (kept : ℤ) → map version_read (versions_shown t kept) ≡ versions_of t kept
versions_found t kept = map-map version_read (version_shown t) _ ∙ map_same _ _ (version_back t) _

pub record_found : (t : Tables) (lab : ℤ) (number : ℕ) → option_map record_head_of (slice_get (records_shown t lab number) 0) ≡ option_map record_head (find (is_record lab number) t.records)
record_found t lab number = go (filter (is_record lab number) t.records) ∙ ap (option_map record_head) (slice_get-filter (is_record lab number) t.records)
  where
    go : (found : List RecordRow) → option_map record_head_of (slice_get (map record_shown found) 0) ≡ option_map record_head (slice_get found 0)
    go [] = refl
    go (one ∷ more) = refl

-- a version's own row, put together with what was read by its id
pub leaf_built : (t : Tables) (head : VersionHead) (rows : List Entry) (signatures : List Signature) → rows ≡ entries_of t head.id → signatures ≡ signatures_of t head.id
    → (let one : Leaf = record { number = head.number; format = head.format; opener = head.opener; opened = head.opened; reason = head.reason; rows = rows; signatures = signatures } in one) ≡ leaf_by t head
leaf_built t head rows signatures same also = λ i. record (leaf_by t head) { rows = same i; signatures = also i }
