-- What each statement on entries and signatures means, and what it makes of the tables.
use Rattle.std.proofs.Common.{◌≡◌, ℕ, Ok}
use Rattle.sqlite_value.specs.Order.{Row}
use Rattle.sqlite_keyed.specs.Keyed.{next_key}
use Rattle.sqlite.specs.State.{State, Executes}
use Rattle.lab_store_tables.specs.Rows.{EntryRow, entry_id, SignatureRow, signature_id, tables_in}
use Rattle.lab_store_tables.specs.Changes.{put_entry, put_signature}
use Rattle.lab_store_tables.specs.Held.{IsTyped}
use Rattle.lab_store_tables.specs.Family.{Entries, Signatures}
use Rattle.lab_store_tables.proofs.FamilyWords.{values_of}
use Rattle.lab_store_write.specs.Causes.{is_writing, IsOurs}
use Rattle.lab_store_write.proofs.Inserts.{adds, adds_ours}
use Rattle.lab_store_write.proofs.Inside.{Wrote}
pub use Rattle.lab_store_write_changes.specs.Statements.{add_entry_text, add_signature_text}

-- ---- a row more of entries

-- the columns of the row but its ids
abbrev pub entry_values : EntryRow → Row
entry_values = values_of Entries

pub adds_entry : (one : EntryRow) (old new : State) (count : ℕ) → IsTyped old.now → one.id ≡ next_key entry_id (tables_in old.now.trees).entries
    → Executes add_entry_text (entry_values one) old new (Ok count)
    → Wrote (put_entry one (tables_in old.now.trees)) new.now
adds_entry = adds Entries

pub add_entry_ours : (one : EntryRow) → IsOurs is_writing add_entry_text (entry_values one)
add_entry_ours = adds_ours Entries

-- ---- a row more of signatures

-- the columns of the row but its ids
abbrev pub signature_values : SignatureRow → Row
signature_values = values_of Signatures

pub adds_signature : (one : SignatureRow) (old new : State) (count : ℕ) → IsTyped old.now
    → one.id ≡ next_key signature_id (tables_in old.now.trees).signatures → Executes add_signature_text (signature_values one) old new (Ok count)
    → Wrote (put_signature one (tables_in old.now.trees)) new.now
adds_signature = adds Signatures

pub add_signature_ours : (one : SignatureRow) → IsOurs is_writing add_signature_text (signature_values one)
add_signature_ours = adds_ours Signatures
