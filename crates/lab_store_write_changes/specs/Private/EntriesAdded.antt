-- Tables with a row more, under the next id and behind those that its parent has.
use Rattle.std.specs.Prelude.{ℕ, ℤ}
use Rattle.sqlite_keyed.specs.Keyed.{next_key}
use Rattle.lab_seal_versions.specs.declared.rows.EntryRow.{EntryRow as Entry}
use Rattle.lab_records_kept.specs.declared.records.Signature.{Signature}
use Rattle.lab_seal_versions.specs.Seals.{meaning_word}
use Rattle.lab_store_tables.specs.Columns.{reason_column}
use Rattle.lab_store_tables.specs.Rows.{EntryRow, SignatureRow, Tables, entry_id, signature_id}
use Rattle.lab_store_tables.specs.Changes.{put_entry, put_signature}

-- an entry under an id, at a place
abbrev pub entry_at : ℤ → ℤ → ℕ → ℤ → Entry → EntryRow
entry_at version id place person entry = record {
  id = id;
  version = version;
  place = place;
  key = entry.key;
  value = entry.value;
  unit = entry.unit;
  person = person;
  moment = entry.moment;
  reason = entry.reason;
}

abbrev pub with_entry : ℤ → ℕ → ℤ → Entry → Tables → Tables
with_entry version place person entry t =
    put_entry (entry_at version (next_key entry_id t.entries) place person entry) t

abbrev pub signature_at : ℤ → ℤ → ℕ → ℤ → Signature → SignatureRow
signature_at version id place person signature = record {
  id = id;
  version = version;
  place = place;
  person = person;
  name = signature.name;
  meaning = meaning_word signature.meaning;
  moment = signature.moment;
  reason = reason_column signature.meaning;
  digest = signature.digest;
  seal = signature.seal;
}

abbrev pub with_signature : ℤ → ℕ → ℤ → Signature → Tables → Tables
with_signature version place person signature t =
    put_signature
    (signature_at version (next_key signature_id t.signatures) place person signature) t
