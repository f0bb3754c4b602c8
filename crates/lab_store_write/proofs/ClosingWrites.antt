-- What the statement that closes a session means, and what it makes of the tables.
use Rattle.std.proofs.Common.{ℕ, ℤ, pos, true, List, [], ◌∷◌, codes, Ok, refl, lit≤, int_eq}
use Rattle.sqlite_value.specs.declared.value.Value.TheVariants.{Int}
use Rattle.sqlite_sql.specs.Term.{Term, lit}
use Rattle.sqlite_tied.specs.Compute.{everything}
use Rattle.sqlite_keyed.specs.Lists.{update_where}
use Rattle.sqlite.specs.Listing.{understood}
use Rattle.sqlite.specs.State.{State, Executes}
use Rattle.lab_store_tables.specs.Rows.{SessionRow, tables_in}
use Rattle.lab_store_tables.specs.Held.{IsTyped}
use Rattle.lab_store_tables.specs.Family.{Sessions}
use Rattle.lab_store_write.specs.Causes.{is_writing, IsOurs}
use Rattle.lab_store_write.proofs.Updates.{IsUpdate, by_id, sets}
use Rattle.lab_store_write.proofs.Inside.{Wrote}
use Rattle.lab_store_write.proofs.Ours.{ours}
pub use Rattle.lab_store_write.specs.Statements.{close_text}

abbrev closing : List (List ℕ × Term)
closing = (codes "closed", lit (Int (pos 1))) ∷ []

close_is : IsUpdate Sessions by_id closing close_text
unfolding understood everything
close_is = ((refl, refl), refl)

pub close_ours : (id : ℤ) → IsOurs is_writing close_text (Int id ∷ [])
unfolding understood everything
close_ours id = ours _ _ (lit≤ tt, refl, refl, refl, refl) refl

pub sets_close : (id : ℤ) (old new : State) (count : ℕ) → IsTyped old.now → Executes close_text (Int id ∷ []) old new (Ok count)
    → Wrote (record (tables_in old.now.trees) { sessions = update_where (λ (one : SessionRow). int_eq one.id id) (λ (one : SessionRow). record one { closed = true }) (tables_in old.now.trees).sessions }) new.now
sets_close id = sets Sessions closing close_text close_is id [] (λ (one : SessionRow). record one { closed = true }) (λ _. refl) (λ _. refl)
