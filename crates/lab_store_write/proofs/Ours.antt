-- Statements of ours: what is computed of a text makes it one.
use Rattle.std.proofs.Common.{◌≡◌, ℕ, ◌≤◌, List, [], length, Bool, false, None, Ok, Err, IsTrue, refl}
use Rattle.sqlite_value.specs.Order.{Row}
use Rattle.sqlite_schema.specs.declared.command.Command.{Command}
use Rattle.sqlite_resolve.specs.declared.compiled.Compiled.{Compiled}
use Rattle.sqlite_resolve.specs.Lowering.{Checked}
use Rattle.sqlite.specs.Listing.{understood, reads_listing}
use Rattle.lab_store_tables.specs.Schema.{lab_schema}
use Rattle.lab_store_write.specs.Causes.{IsOurs}

-- one statement, of so many parameters, which does this
abbrev pub IsOnRows : (Command → Bool) → List ℕ → ℕ → Checked Compiled → Type 0
IsOnRows is_so sql count (Ok c) = (length sql ≤ c.tail) × (count ≡ length c.names) × (c.formats ≡ []) × (c.returning ≡ None) × IsTrue (is_so c.command)
IsOnRows is_so sql count (Err e) = ⊥

pub ours : {is_so : Command → Bool} (sql : List ℕ) (params : Row) → IsOnRows is_so sql (length params) (understood lab_schema sql) → reads_listing lab_schema sql ≡ false → IsOurs is_so sql params
ours {is_so} sql params = go (understood lab_schema sql) refl
  where
    go : (r : Checked Compiled) → understood lab_schema sql ≡ r → IsOnRows is_so sql (length params) r → reads_listing lab_schema sql ≡ false → IsOurs is_so sql params
    go (Ok c) is it own = record { compiled = c; is = is; whole = it.0; given = it.1; timeless = it.2; silent = it.3; does = it.4; own = own }
    go (Err e) is it own = absurd it
