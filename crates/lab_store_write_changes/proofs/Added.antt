-- Steps of several calls: an entry, a signature, and what they are of a record that is named.
use Rattle.std.proofs.Common.{◌≡◌, ℕ, ℤ, ◌+◌, filter, length, Some, ap, ◌∙◌}
use Rattle.std.proofs.lemmas.Option.{option_and_then_some}
use Rattle.sqlite_keyed.specs.Keyed.{next_key}
use Rattle.sqlite_keyed.proofs.KeyedLemmas.{next_key_is_free}
use Rattle.sqlite.specs.State.{State}
use Rattle.lab_seal_versions.specs.declared.rows.EntryRow.{EntryRow as Entry}
use Rattle.lab_records_kept.specs.declared.records.Signature.{Signature}
use Rattle.lab_store_tables.specs.Rows.{RecordRow, Tables, entry_id, signature_id}
use Rattle.lab_store_tables.specs.Changes.{person_named, put_entry, put_signature, record_named, version_named, AddsEntry, AddsSignature, EntersRow, SignsVersion}
use Rattle.lab_store_tables.specs.Ready.{tables_of}
use Rattle.lab_store_tables.specs.Family.{Entries, Signatures}
use Rattle.lab_store_write.specs.Calls.{Steps, Finds, MadeFrom}
use Rattle.lab_store_write_changes.specs.Private.VersionsShown.{is_entry_of, is_signature_of}
use Rattle.lab_store_write_changes.specs.VersionsShown.{current_of, version_in_record}
use Rattle.lab_store_write_changes.specs.Private.EntriesAdded.{entry_at, with_entry, signature_at, with_signature}

-- an entry: whose it is, its place, and the row
pub entry_added : (lab : ℤ) (K : Tables → Type 0) (version : ℤ) (one : Entry) (person : ℤ) (place : ℕ) (a b c d : State)
    → Steps (Finds (λ t. K t → person_named t lab one.person ≡ Some person)) a b
    → Steps (Finds (λ t. place ≡ length (filter (is_entry_of version) t.entries) + 1)) b c
    → Steps (λ before after. after ≡ with_entry version place person one before) c d → Steps (MadeFrom K (AddsEntry lab version one)) a d
entry_added lab K version one person place a b c d p q r = record {
  inside = r.inside;
  made = λ typed.
      let first = p.made typed in
      let second = q.made first.0 in
      let third = r.made second.0 in
      let t = tables_of a in
      let id = next_key entry_id t.entries in
      let added : K t → AddsEntry lab version one t (tables_of d) = λ known. record {
        id = id;
        free = next_key_is_free entry_id t.entries (typed.rising.at Entries);
        person = person;
        named = first.1.0 known;
        made = third.1 ∙ ap (with_entry version place person one) (second.1.1 ∙ first.1.1)
            ∙ ap (λ (n : ℕ). put_entry (entry_at version id n person one) t)
            (second.1.0 ∙ ap (λ (x : Tables). length (filter (is_entry_of version) x.entries) + 1) first.1.1);
      } in
      (third.0, added);
  sound = λ typed rules. let first = p.made typed in r.sound (q.made first.0).0 (q.sound first.0 (p.sound typed rules));
}

-- a signature: whose it is, its place, and the row
pub signature_added : (lab : ℤ) (K : Tables → Type 0) (version : ℤ) (one : Signature) (person : ℤ) (place : ℕ) (a b c d : State)
    → Steps (Finds (λ t. K t → person_named t lab one.person ≡ Some person)) a b
    → Steps (Finds (λ t. place ≡ length (filter (is_signature_of version) t.signatures) + 1)) b c
    → Steps (λ before after. after ≡ with_signature version place person one before) c d → Steps (MadeFrom K (AddsSignature lab version one)) a d
signature_added lab K version one person place a b c d p q r = record {
  inside = r.inside;
  made = λ typed.
      let first = p.made typed in
      let second = q.made first.0 in
      let third = r.made second.0 in
      let t = tables_of a in
      let id = next_key signature_id t.signatures in
      let added : K t → AddsSignature lab version one t (tables_of d) = λ known. record {
        id = id;
        free = next_key_is_free signature_id t.signatures (typed.rising.at Signatures);
        person = person;
        named = first.1.0 known;
        made = third.1 ∙ ap (with_signature version place person one) (second.1.1 ∙ first.1.1)
            ∙ ap (λ (n : ℕ). put_signature (signature_at version id n person one) t)
            (second.1.0 ∙ ap (λ (x : Tables). length (filter (is_signature_of version) x.signatures) + 1) first.1.1);
      } in
      (third.0, added);
  sound = λ typed rules. let first = p.made typed in r.sound (q.made first.0).0 (q.sound first.0 (p.sound typed rules));
}

-- a row of the last version of a record: which record it is whose version was found
pub row_entered : (lab : ℤ) (wanted : ℕ) (one : Entry) (version : ℤ) (before after : Tables) → AddsEntry lab version one before after
    → version_in_record current_of before lab wanted ≡ Some version → EntersRow lab wanted one before after
row_entered lab wanted one version before after added there =
    option_and_then_some (λ (kept : RecordRow). version_named before kept.id kept.current) (record_named before lab wanted) version there
    (λ kept found last. record { kept = kept; found = found; version = version; last = last; added = added })

pub version_signed : (lab : ℤ) (wanted number : ℕ) (one : Signature) (version : ℤ) (before after : Tables) → AddsSignature lab version one before after
    → version_in_record (λ _. number) before lab wanted ≡ Some version → SignsVersion lab wanted number one before after
version_signed lab wanted number one version before after added there =
    option_and_then_some (λ (kept : RecordRow). version_named before kept.id number) (record_named before lab wanted) version there
    (λ kept found there. record { kept = kept; found = found; signed = version; there = there; added = added })
