-- What the statement that adds a laboratory's row means, and what it makes of the tables.
use Rattle.std.proofs.Common.{◌≡◌, ℕ, ℤ, pos, List, [], ◌∷◌, codes, Ok, refl, sym, subst, ◌∙◌, lit≤}
use Rattle.sqlite_value.specs.declared.value.Value.TheVariants.{Null, Int, Text}
use Rattle.sqlite_value.specs.Order.{Row}
use Rattle.sqlite_schema.specs.declared.command.Command.TheVariants.{Insert}
use Rattle.sqlite_schema.specs.declared.command.Source.TheVariants.{Values}
use Rattle.sqlite_sql.specs.Term.{Term, lit, col}
use Rattle.sqlite_tied.specs.Compute.{everything}
use Rattle.sqlite_rules.specs.Cast.{cast_row}
use Rattle.sqlite_keyed.specs.Keyed.{next_key, insert_by}
use Rattle.sqlite_keyed.proofs.KeyedLemmas.{IsKeyedBy-insert_by, next_key_is_free}
use Rattle.sqlite.specs.Effect.{IsDatabase}
use Rattle.sqlite.specs.Listing.{understood}
use Rattle.sqlite.specs.State.{State, Executes, ExecutesInside}
use Rattle.sqlite.proofs.Callers.{IsPlain, command_of}
use Rattle.lab_records_kept.specs.declared.labs.Lab.{Lab}
use Rattle.lab_store_tables.specs.Schema.{lab_schema, labs}
use Rattle.lab_store_tables.specs.Rows.{lab_id, tables_in, number}
use Rattle.lab_store_tables.proofs.RowWords.{lab_row}
use Rattle.lab_store_tables.specs.Held.{IsTyped}
use Rattle.lab_store_tables.specs.Changes.{IsFree}
use Rattle.lab_store_tables.specs.Placing.{lab_row_of, put_lab}
use Rattle.lab_store_tables.specs.Ready.{tables_of}
use Rattle.lab_store_tables.specs.Family.{Labs}
use Rattle.lab_store_tables.proofs.Tables.{held_if_stored, stored_with, rising_with}
use Rattle.lab_store_write.specs.Calls.{Steps}
use Rattle.lab_store_write.specs.Causes.{is_writing, IsOurs}
use Rattle.lab_store_write.proofs.Writes.{cast_int, cast_null, add_next, next_id}
use Rattle.lab_store_write.proofs.Inside.{Wrote}
use Rattle.lab_store_write.proofs.Ours.{ours}
use Rattle.lab_store_write_changes.specs.NewbornRows.{AddsLab}

abbrev pub add_lab_text : List ℕ
add_lab_text = codes "INSERT INTO labs (code, name, last, stray, records, sessions, trail) VALUES (?1, ?2, ?3, ?4, 0, 0, 0)"

abbrev lab_terms : List Term
lab_terms = lit Null ∷ lit Null ∷ col 0 0 ∷ col 0 1 ∷ col 0 2 ∷ col 0 3 ∷ lit (Int (pos 0)) ∷ lit (Int (pos 0)) ∷ lit (Int (pos 0)) ∷ []

add_lab_plain : IsPlain (understood lab_schema add_lab_text)
unfolding understood everything
add_lab_plain = (refl, refl)

add_lab_is : command_of (understood lab_schema add_lab_text) ≡ Insert 1 (Values lab_terms 9)
unfolding understood everything
add_lab_is = refl

-- what the statement is given
abbrev pub lab_given : Lab → Row
lab_given lab = Text lab.code ∷ Text lab.name ∷ number lab.last ∷ number lab.strays ∷ []

pub add_lab_ours : (lab : Lab) → IsOurs is_writing add_lab_text (lab_given lab)
unfolding understood everything
add_lab_ours lab = ours _ _ (lit≤ tt, refl, refl, refl, refl) refl

-- the columns of the row but its id
abbrev lab_tail : Lab → Row
lab_tail lab = Null ∷ Text lab.code ∷ Text lab.name ∷ number lab.last ∷ number lab.strays ∷ number 0 ∷ number 0 ∷ number 0 ∷ []

new_cast : (lab : Lab) → cast_row labs (Null ∷ lab_tail lab) ≡ Null ∷ lab_tail lab
new_cast lab = λ i.
    cast_null i ∷ cast_null i ∷ Text lab.code ∷ Text lab.name ∷ cast_int (pos lab.last) i ∷ cast_int (pos lab.strays) i
    ∷ cast_int (pos 0) i ∷ cast_int (pos 0) i ∷ cast_int (pos 0) i ∷ []

module _ (lab : Lab) (old new : State) (count : ℕ) (typed : IsTyped old.now) (did : Executes add_lab_text (lab_given lab) old new (Ok count)) where
  told_id : new.last_rowid ≡ next_key lab_id (tables_in old.now.trees).labs
  told_id =
      next_id labs lab_id lab_row (λ _. refl) 1 refl add_lab_text lab_terms 9 add_lab_plain add_lab_is
      (lab_given lab) (lab_tail lab) old new count (tables_in old.now.trees).labs refl (new_cast lab) typed.schema (typed.stored.at Labs) did

  adds_lab : (id : ℤ) → id ≡ next_key lab_id (tables_in old.now.trees).labs → Wrote (put_lab (lab_row_of id lab) (tables_in old.now.trees)) new.now
  adds_lab id next =
      let t = tables_in old.now.trees in
      let row = lab_row_of id lab in
      let rows = insert_by lab_id t.labs row in
      let it = add_next labs lab_id lab_row (λ _. refl) 1 refl add_lab_text lab_terms 9 add_lab_plain add_lab_is
      (lab_given lab) (lab_tail lab) row old new count t.labs next refl refl (new_cast lab) typed.schema (typed.stored.at Labs) (typed.rising.at Labs) did in
      record {
        held = held_if_stored new.now (put_lab row t) it.schema
            (stored_with Labs old.now.trees new.now.trees t rows typed.stored it.spared it.rows)
            (rising_with Labs t rows typed.rising (IsKeyedBy-insert_by lab_id t.labs row (typed.rising.at Labs)));
        sound = it.sound;
      }

  is_free : (id : ℤ) → id ≡ next_key lab_id (tables_in old.now.trees).labs → IsFree lab_id (tables_of old).labs id
  is_free id next = subst (IsFree lab_id (tables_of old).labs) (sym next) (next_key_is_free lab_id (tables_in old.now.trees).labs (typed.rising.at Labs))

  added : (id : ℤ) → id ≡ next_key lab_id (tables_in old.now.trees).labs → AddsLab id lab (tables_of old) (tables_of new)
  added id next = record {
    free = is_free id next;
    made = (adds_lab id next).held.tables;
  }

-- the id that the connection tells is that of the row
pub lab_sound : (lab : Lab) (id : ℤ) (old new : State) (count : ℕ) → id ≡ new.last_rowid → ExecutesInside 0 add_lab_text (lab_given lab) old new (Ok count)
    → IsTyped old.now → IsDatabase new.now
lab_sound lab id old new count is ran typed = (adds_lab lab old new count typed ran.0 id (is ∙ told_id lab old new count typed ran.0)).sound

pub lab_added : (lab : Lab) (id : ℤ) (old new : State) (count : ℕ) → id ≡ new.last_rowid → ExecutesInside 0 add_lab_text (lab_given lab) old new (Ok count)
    → Steps (AddsLab id lab) old new
lab_added lab id old new count is ran = record {
  inside = ran.1.mode;
  made = λ typed.
      let next = is ∙ told_id lab old new count typed ran.0 in
      ((adds_lab lab old new count typed ran.0 id next).held.typed, added lab old new count typed ran.0 id next);
  sound = λ typed _. lab_sound lab id old new count is ran typed;
}
