-- The rows of a newborn laboratory, for whose founders nothing was asked, are its placing.
use Rattle.std.proofs.Common.{◌≡◌, Bool, true, false, ◌||◌, List, [], ◌∷◌, map, filter, find, is_some, Option, Some, None, refl, sym, ap, ap₂, subst}
use Rattle.sqlite_keyed.proofs.ListLemmas.{all_weaker, filter_none}
use Rattle.lab_people_access.specs.declared.persons.Person.{Person}
use Rattle.lab_people_access.specs.declared.persons.Ask.{Ask}
use Rattle.lab_records_kept.specs.declared.births.Newborn.{Newborn}
use Rattle.lab_records_kept.specs.declared.labs.Lab.{Lab}
use Rattle.lab_records_kept.specs.Births.{newborn_lab}
use Rattle.lab_store_tables.specs.Rows.{Tables}
use Rattle.lab_store_tables.specs.Meaning.{has_code}
use Rattle.lab_store_tables.specs.Changes.{InTurn, AddsPerson, SetsPerson}
use Rattle.lab_store_tables.specs.Placing.{lab_row_of, put_lab, unasked, is_asked_for, PlacesLab}
use Rattle.lab_store_tables.proofs.CodeOrder.{all_founders}
use Rattle.lab_store_tables.proofs.Enrolments.{AreUnasked}
use Rattle.lab_store_write_changes.specs.Newborns.{is_asked}
use Rattle.lab_store_write_changes.specs.NewbornRows.{AddsRows}
use Rattle.lab_store.specs.Founding.{IsPlacedBy}

-- ---- founders for whom nothing was asked

none_if : {A : Type 0} (o : Option A) → is_some o ≡ false → o ≡ None
none_if None is = refl
none_if (Some one) is = absurd cc

neither : (one other third : Bool) → (one || other || third) ≡ false → (one ≡ false) × (other ≡ false) × (third ≡ false)
neither false false false is = (refl, refl, refl)
neither false false true is = absurd cc
neither false true third is = absurd cc
neither true other third is = absurd cc

all_as_they_are : (persons : List Person) → AreUnasked persons → map unasked persons ≡ persons
all_as_they_are [] none = refl
all_as_they_are (person ∷ others) none = ap₂ ◌∷◌ (λ i. record person { ask = sym none.0 i }) (all_as_they_are others none.1)

nobody_asked_for : (persons : List Person) → AreUnasked persons → filter is_asked_for persons ≡ []
nobody_asked_for persons none =
    filter_none is_asked_for persons
    (all_weaker (λ (one : Person). one.ask ≡ None) (λ (one : Person). is_asked_for one ≡ false)
    (λ one h. ap (λ (ask : Option Ask). is_some ask) h) persons none)

-- ---- a laboratory without sessions, forms and records

module _ (lab : Lab) (old new : Tables) (nobody : AreUnasked lab.persons) (it : AddsRows lab old new) where
  enrolled_in_turn : InTurn (AddsPerson it.id) (map unasked lab.persons) (put_lab (lab_row_of it.id lab) old) it.enrolled
  enrolled_in_turn =
      subst (λ persons. InTurn (AddsPerson it.id) persons (put_lab (lab_row_of it.id lab) old) it.enrolled)
      (sym (all_as_they_are lab.persons nobody))
      (subst (λ t. InTurn (AddsPerson it.id) lab.persons t it.enrolled) it.row.made it.persons)

  nothing_set : InTurn (SetsPerson it.id) (filter is_asked_for lab.persons) it.enrolled it.enrolled
  nothing_set = subst (λ persons. InTurn (SetsPerson it.id) persons it.enrolled it.enrolled) (sym (nobody_asked_for lab.persons nobody)) refl

pub is_placed : (newborn : Newborn) (old new : Tables) → find (has_code newborn.code) old.labs ≡ None → is_asked newborn ≡ false
    → AddsRows (newborn_lab newborn) old new → IsPlacedBy newborn old new
is_placed newborn old new absent unasked it =
    let asked = neither (is_some newborn.first.ask) (is_some newborn.second.ask) (is_some newborn.third.ask) unasked in
    let first = none_if newborn.first.ask asked.0 in
    let second = none_if newborn.second.ask asked.1 in
    let third = none_if newborn.third.ask asked.2 in
    let nobody : AreUnasked (newborn_lab newborn).persons = all_founders (λ (one : Person). one.ask ≡ None) newborn first second third in
    let placed : PlacesLab (newborn_lab newborn) old new = record {
      absent = absent;
      id = it.id;
      free = it.row.free;
      enrolled = it.enrolled;
      persons = enrolled_in_turn (newborn_lab newborn) old new nobody it;
      asked = it.enrolled;
      asks = nothing_set (newborn_lab newborn) old new nobody it;
      opened = it.enrolled;
      sessions = refl;
      formed = it.enrolled;
      forms = refl;
      filed = it.enrolled;
      records = refl;
      trail = it.trail;
    } in
    record { placed = record { first = first; second = second; third = third; placed = placed; rules = it.rules }; rising = it.rising }
