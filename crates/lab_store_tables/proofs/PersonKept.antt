-- A person more, and a person who is set: the tables stay well kept.
use Rattle.std.proofs.Common.{◌≡◌, ℕ, ℤ, true, List, Option, Some, None, option_map, refl, sym, ap, subst, int_eq, bytes_eq}
use Rattle.std.proofs.lemmas.Bool.{and_parts}
use Rattle.sqlite_keyed.proofs.KeyedLemmas.{same_int}
use Rattle.lab_people_access.specs.declared.persons.Person.{Person}
use Rattle.lab_people_access.specs.declared.persons.Ask.{Ask}
use Rattle.lab_records_kept.specs.declared.changes.Change.TheVariants.{PersonAdded, PersonSet}
use Rattle.lab_store_tables.specs.Rows.{PersonRow, Tables, person_id}
use Rattle.lab_store_tables.specs.Columns.{roles_sum, password_columns, ask_columns}
use Rattle.lab_store_tables.specs.WellKept.{have_own_ids, is_of_lab, is_whole_ask, AreWellKept}
use Rattle.lab_store_tables.specs.Family.{Persons}
use Rattle.lab_store_tables.specs.Changes.{IsFree, IsNamedIfAny, is_person, person_named, asker_of, person_row_of, put_person, set_person, AddsPerson, SetsPerson, Applies}
use Rattle.lab_store_tables.proofs.ColumnsBack.{roles_back, password_back}
use Rattle.lab_store_tables.specs.ByRules.{IsByRules}
use Rattle.lab_store_tables.proofs.Kept.{IsRowKept, AreAllKept, all_kept, well_kept}
use Rattle.lab_store_tables.proofs.Ids.{own_ids}
use Rattle.lab_store_tables.proofs.Named.{the_row, named_if_any}
use Rattle.lab_store_tables.proofs.Puts.{put_kept}
use Rattle.lab_store_tables.proofs.Sets.{person_set}

-- ---- what is asked for: by somebody of the laboratory, with all its columns or none

module _ (t : Tables) (own : have_own_ids person_id t.persons ≡ true) (lab : ℤ) (asker : Option ℤ) where
  asked_within : (ask : Option Ask) → IsNamedIfAny t lab (option_map (λ (one : Ask). one.asker) ask) asker
      → is_of_lab t lab (ask_columns asker ask).asker ≡ true
  asked_within None named = refl
  asked_within (Some ask) named = named_if_any t own lab (Some ask.asker) asker named

  asked_whole : (ask : Option Ask) → IsNamedIfAny t lab (option_map (λ (one : Ask). one.asker) ask) asker → is_whole_ask (ask_columns asker ask) ≡ true
  asked_whole None named = refl
  asked_whole (Some ask) named = ap (λ o. is_whole_ask (ask_columns o (Some ask))) named.2

module _ (t : Tables) (own : have_own_ids person_id t.persons ≡ true) (lab : ℤ) (person : Person) (id : ℤ) (asker : Option ℤ)
    (named : IsNamedIfAny t lab (asker_of person) asker) where
  abbrev row : PersonRow
  row = person_row_of lab id asker person

  row_kept : IsRowKept Persons t row
  row_kept = (
    asked_within t own lab asker person.ask named,
    asked_whole t own lab asker person.ask named,
    (ap roles_sum (roles_back person.roles), ap password_columns (password_back person.password)),
  )

  person_more : IsFree person_id t.persons id → AreAllKept t → AreAllKept (put_person row t)
  person_more free kept = record {
    rows = put_kept Persons t row free row_kept tt kept.rows;
    counters = kept.counters;
    currents = kept.currents;
  }

  person_in_place : person_named t lab person.code ≡ Some id → AreAllKept t → AreAllKept (set_person row t)
  person_in_place found kept =
      let it = the_row person_id (is_person lab person.code) t.persons own id found in
      let beside = same_int it.0.lab lab (and_parts (int_eq it.0.lab lab) (bytes_eq it.0.code person.code) it.2).0 in
      record {
        rows = person_set t own row it.0 it.3 it.4 beside row_kept kept.rows;
        counters = kept.counters;
        currents = kept.currents;
      }

pub person_added : (lab : ℤ) (person : Person) (old new : Tables) → AddsPerson lab person old new → have_own_ids person_id old.persons ≡ true → AreAllKept old
    → AreAllKept new
person_added lab person old new it own kept = subst AreAllKept (sym it.made) (person_more old own lab person it.id it.asker it.named it.free kept)

pub person_replaced : (lab : ℤ) (person : Person) (old new : Tables) → SetsPerson lab person old new → have_own_ids person_id old.persons ≡ true
    → AreAllKept old → AreAllKept new
person_replaced lab person old new it own kept = subst AreAllKept (sym it.made) (person_in_place old own lab person it.id it.asker it.named it.found kept)

pub person_added_keeps : {old new : Tables} {code : List ℕ} {person : Person} → AreWellKept old → IsByRules new → Applies code (PersonAdded person) old new
    → AreWellKept new
person_added_keeps {old} {new} {code} {person} well rules it =
    well_kept new rules (person_added it.lab.id person old new it.made (own_ids old well.ids).persons (all_kept old well))

pub person_set_keeps : {old new : Tables} {code : List ℕ} {person : Person} → AreWellKept old → IsByRules new → Applies code (PersonSet person) old new
    → AreWellKept new
person_set_keeps {old} {new} {code} {person} well rules it =
    well_kept new rules (person_replaced it.lab.id person old new it.made (own_ids old well.ids).persons (all_kept old well))
