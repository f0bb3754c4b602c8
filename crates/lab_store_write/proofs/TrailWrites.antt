-- What the statement on the trail means, and what it makes of the tables.
use Rattle.std.proofs.Common.{◌≡◌, ℕ, Ok}
use Rattle.sqlite_value.specs.Order.{Row}
use Rattle.sqlite_keyed.specs.Keyed.{next_key}
use Rattle.sqlite.specs.State.{State, Executes}
use Rattle.lab_store_tables.specs.Rows.{TrailRow, trail_id, tables_in}
use Rattle.lab_store_tables.specs.Changes.{put_told}
use Rattle.lab_store_tables.specs.Held.{IsTyped}
use Rattle.lab_store_tables.specs.Family.{Trail}
use Rattle.lab_store_tables.proofs.FamilyWords.{values_of}
use Rattle.lab_store_write.proofs.Inserts.{adds}
use Rattle.lab_store_write.proofs.Inside.{Wrote}
pub use Rattle.lab_store_write.specs.Statements.{add_told_text}

-- ---- a row more of trail

-- the columns of the row but its ids
abbrev pub told_values : TrailRow → Row
told_values = values_of Trail

pub adds_told : (one : TrailRow) (old new : State) (count : ℕ) → IsTyped old.now → one.id ≡ next_key trail_id (tables_in old.now.trees).trail → Executes add_told_text (told_values one) old new (Ok count)
    → Wrote (put_told one (tables_in old.now.trees)) new.now
adds_told = adds Trail
