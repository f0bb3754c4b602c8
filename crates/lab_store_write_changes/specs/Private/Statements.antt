-- What clauses of private functions say beside Statements.antt.
use Rattle.std.specs.Prelude.{ℕ, ℤ, pos}
use Rattle.lab_seal_versions.specs.declared.rows.EntryRow.{EntryRow as Entry}
use Rattle.lab_records_kept.specs.declared.records.Signature.{Signature}
use Rattle.lab_store_write.specs.Causes.{Statement}
use Rattle.lab_store_write_changes.specs.Private.EntriesAdded.{entry_at, signature_at}
use Rattle.lab_store_write_changes.specs.Statements.{adding_entry, adding_signature}

-- ---- entries and signatures

abbrev pub adding_entry_at : ℤ → ℕ → ℤ → Entry → Statement
adding_entry_at version place person entry =
    adding_entry (entry_at version (pos 0) place person entry)

abbrev pub adding_signature_at : ℤ → ℕ → ℤ → Signature → Statement
adding_signature_at version place person signature =
    adding_signature (signature_at version (pos 0) place person signature)
