-- What the statement that names the schema means, and what it makes of the tables.
use Rattle.std.proofs.Common.{◌≡◌, ℕ, pos, List, [], ◌∷◌, codes, Ok, refl, sym, ap, subst, lit≤}
use Rattle.sqlite_value.specs.declared.value.Value.TheVariants.{Null, Int}
use Rattle.sqlite_value.specs.Order.{Row}
use Rattle.sqlite_schema.specs.declared.command.Command.TheVariants.{Insert}
use Rattle.sqlite_schema.specs.declared.command.Source.TheVariants.{Values}
use Rattle.sqlite_sql.specs.Term.{Term, lit}
use Rattle.sqlite_tied.specs.Compute.{everything}
use Rattle.sqlite_rules.specs.Cast.{cast_row}
use Rattle.sqlite_keyed.specs.Keyed.{next_key, insert_by}
use Rattle.sqlite_keyed.proofs.KeyedLemmas.{IsKeyedBy-insert_by, next_key_is_free}
use Rattle.sqlite.specs.Effect.{Database}
use Rattle.sqlite.specs.Listing.{understood}
use Rattle.sqlite.specs.State.{State, Executes, ExecutesInside}
use Rattle.sqlite.proofs.Callers.{IsPlain, command_of}
use Rattle.lab_store_tables.specs.Schema.{lab_schema, desk}
use Rattle.lab_store_tables.specs.Rows.{DeskRow, Tables, desk_id, tables_in, number}
use Rattle.lab_store_tables.proofs.RowWords.{desk_row}
use Rattle.lab_store_tables.specs.Held.{IsTyped}
use Rattle.lab_store_tables.specs.Meaning.{meaning}
use Rattle.lab_store_tables.specs.WellKept.{is_desk, AreWellKept, IsWellKept}
use Rattle.lab_store_tables.specs.Ready.{tables_of}
use Rattle.lab_store_tables.specs.Family.{Desk}
use Rattle.lab_store_tables.proofs.Tables.{held_if_stored, stored_with, rising_with}
use Rattle.lab_store_write.specs.Calls.{Steps}
use Rattle.lab_store_write.specs.Causes.{is_writing, IsOurs}
use Rattle.lab_store_write.proofs.Writes.{cast_int, cast_null, add_next}
use Rattle.lab_store_write.proofs.Inside.{Wrote}
use Rattle.lab_store_write.proofs.Ours.{ours}
use Rattle.lab_move_write.specs.Unfinished.{Finishes}
use Rattle.lab_move_write.specs.Namings.{naming_row, put_naming, NamesSchema, naming_text}

-- ---- the statement

abbrev naming_terms : List Term
naming_terms = lit Null ∷ lit Null ∷ lit (Int (pos 3)) ∷ []

naming_plain : IsPlain (understood lab_schema naming_text)
unfolding understood everything
naming_plain = (refl, refl)

naming_is : command_of (understood lab_schema naming_text) ≡ Insert 0 (Values naming_terms 3)
unfolding understood everything
naming_is = refl

pub naming_ours : IsOurs is_writing naming_text []
unfolding understood everything
naming_ours = ours _ _ (lit≤ tt, refl, refl, refl, refl) refl

abbrev naming_tail : Row
naming_tail = Null ∷ number 3 ∷ []

new_cast : cast_row desk (Null ∷ naming_tail) ≡ Null ∷ naming_tail
new_cast = λ i. cast_null i ∷ cast_null i ∷ cast_int (pos 3) i ∷ []

module _ (old new : State) (count : ℕ) (typed : IsTyped old.now) (did : Executes naming_text [] old new (Ok count)) where
  abbrev t : Tables
  t = tables_in old.now.trees

  abbrev row : DeskRow
  row = naming_row (next_key desk_id t.desk)

  named : Wrote (put_naming (next_key desk_id t.desk) t) new.now
  named =
      let rows = insert_by desk_id t.desk row in
      let it = add_next desk desk_id desk_row (λ _. refl) 0 refl naming_text naming_terms 3 naming_plain naming_is
      [] naming_tail row old new count t.desk refl refl refl new_cast typed.schema (typed.stored.at Desk) (typed.rising.at Desk) did in
      record {
        held = held_if_stored new.now (put_naming (next_key desk_id t.desk) t) it.schema
            (stored_with Desk old.now.trees new.now.trees t rows typed.stored it.spared it.rows)
            (rising_with Desk t rows typed.rising (IsKeyedBy-insert_by desk_id t.desk row (typed.rising.at Desk)));
        sound = it.sound;
      }

  names : NamesSchema (tables_of old) (tables_of new)
  names = record {
    id = next_key desk_id t.desk;
    free = next_key_is_free desk_id t.desk (typed.rising.at Desk);
    made = named.held.tables;
  }

pub schema_named : (old new : State) (count : ℕ) → ExecutesInside 0 naming_text [] old new (Ok count) → Steps NamesSchema old new
schema_named old new count ran = record {
  inside = ran.1.mode;
  made = λ typed. ((named old new count typed ran.0).held.typed, names old new count typed ran.0);
  sound = λ typed _. (named old new count typed ran.0).sound;
}

-- ---- what it means

named_is_kept : (old new : Tables) → old.desk ≡ [] → AreWellKept old → NamesSchema old new → IsWellKept new
named_is_kept old new none well it =
    subst IsWellKept (sym it.made) (record {
      desk = ap (λ rows. is_desk (insert_by desk_id rows (naming_row it.id))) none;
      rows = record {
        ids = well.ids;
        keys = well.keys;
        arrows = well.arrows;
        labs_apart = well.labs_apart;
        numbered = well.numbered;
        alike = well.alike;
        columns = well.columns;
        persons = well.persons;
        fields = well.fields;
        signatures = well.signatures;
        trail = well.trail;
      };
    })

-- the law of a file whose schema is named last
pub finishes : (was db : Database) → (IsTyped was → IsTyped db × NamesSchema (tables_in was.trees) (tables_in db.trees)) → Finishes was db
finishes was db made filled =
    let it = made filled.typed in (
      record { typed = it.0; rows = named_is_kept (tables_in was.trees) (tables_in db.trees) filled.unnamed filled.rows it.1 },
      λ code. ap (λ (t : Tables). meaning t code) it.1.made,
    )
