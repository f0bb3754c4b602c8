-- Definitions for proofs only, which belong to specs/VersionsShown.antt: no clause names them.
use Rattle.std.specs.Prelude.{ℤ, List, [], ◌∷◌, map, filter}
use Rattle.sqlite_value.specs.declared.value.Value.TheVariants.{Int}
use Rattle.sqlite_value.specs.Order.{Row}
use Rattle.lab_store_tables.specs.Rows.{EntryRow, SignatureRow, Tables}
use Rattle.lab_store_write_changes.specs.Private.VersionsShown.{is_entry_of, is_signature_of}

abbrev pub entries_shown : ℤ → Tables → List Row
entries_shown version t =
    map (λ (one : EntryRow). Int one.id ∷ []) (filter (is_entry_of version) t.entries)

abbrev pub signatures_shown : ℤ → Tables → List Row
signatures_shown version t =
    map (λ (one : SignatureRow). Int one.id ∷ []) (filter (is_signature_of version) t.signatures)
