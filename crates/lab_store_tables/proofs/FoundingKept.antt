-- A laboratory that is founded, with its persons and the first row of its trail: the tables stay well kept.
use Rattle.std.proofs.Common.{◌≡◌, ◌+◌, ℤ, true, ◌&&◌, ◌==◌, cond, List, [], map, filter, length, None, sym, ap, subst, ◌∙◌, int_eq}
use Rattle.sqlite_keyed.proofs.KeyedLemmas.{all-insert_by}
use Rattle.lab_people_access.specs.declared.persons.Person.{Person}
use Rattle.lab_records_kept.specs.declared.births.Newborn.{Newborn}
use Rattle.lab_records_kept.specs.declared.labs.Lab.{Lab}
use Rattle.lab_records_kept.specs.declared.trails.TrailRow.{TrailRow as Told}
use Rattle.lab_records_kept.specs.declared.trails.Deed.TheVariants.{Found}
use Rattle.lab_records_kept.specs.Births.{newborn_lab}
use Rattle.lab_records_kept.specs.Trails.{trail_row_of}
use Rattle.lab_store_tables.specs.Rows.{LabRow, PersonRow, SessionRow, RecordRow, TrailRow, Tables, lab_id, person_id}
use Rattle.lab_store_tables.specs.WellKept.{have_own_ids, has_counted, AreWellKept}
use Rattle.lab_store_tables.specs.Family.{Labs}
use Rattle.lab_store_tables.specs.Changes.{IsFree, person_row_of, AddsPerson, SetsPerson}
use Rattle.lab_store_tables.specs.Placing.{lab_row_of, put_lab, unasked, is_asked_for, PlacesLab}
use Rattle.lab_store_tables.specs.ByRules.{IsByRules}
use Rattle.lab_store_tables.proofs.Kept.{AreCounted, AreAllKept, all_kept, well_kept}
use Rattle.lab_store_tables.proofs.Ids.{own_ids, labs_lead}
use Rattle.lab_store_tables.proofs.FreeIds.{none_leads, own_put, own_set}
use Rattle.lab_store_tables.proofs.Puts.{put_kept}
use Rattle.lab_store_tables.proofs.Sets.{replaced_id}
use Rattle.lab_store_tables.proofs.Turns.{turns_leave, turns_keep}
use Rattle.lab_store_tables.proofs.PersonKept.{person_added, person_replaced}
use Rattle.lab_store_tables.proofs.TrailKept.{told_more}

-- ---- the laboratory's row, whose counters begin at none

module _ (t : Tables) (well : AreWellKept t) (lab : Lab) (id : ℤ) (free : IsFree lab_id t.labs id) where
  abbrev new_lab : LabRow
  new_lab = lab_row_of id lab

  no_records : filter (λ (one : RecordRow). int_eq one.lab id) t.records ≡ []
  no_records = none_leads lab_id t.labs (λ (one : RecordRow). one.lab) t.records id free (labs_lead t well.arrows).0

  no_sessions : filter (λ (one : SessionRow). int_eq one.lab id) t.sessions ≡ []
  no_sessions = none_leads lab_id t.labs (λ (one : SessionRow). one.lab) t.sessions id free (labs_lead t well.arrows).1

  pub no_trail : filter (λ (one : TrailRow). int_eq one.lab id) t.trail ≡ []
  no_trail = none_leads lab_id t.labs (λ (one : TrailRow). one.lab) t.trail id free (labs_lead t well.arrows).2

  nothing_counted : has_counted t new_lab ≡ true
  nothing_counted = (λ i. (0 == length (no_records i)) && (0 == length (no_sessions i)) && (0 == length (no_trail i)))

  founded_counted : AreCounted (put_lab new_lab t)
  founded_counted = all-insert_by lab_id (λ (one : LabRow). has_counted t one ≡ true) t.labs new_lab nothing_counted (all_kept t well).counters

  pub lab_more : AreAllKept (put_lab new_lab t)
  lab_more =
      let kept = all_kept t well in record {
        rows = put_kept Labs t new_lab free tt tt kept.rows;
        counters = founded_counted;
        currents = kept.currents;
      }

-- ---- its persons

-- well-kept tables, with ids of persons of their own
abbrev pub ArePersonsOwn : Tables → Type 0
ArePersonsOwn t = (have_own_ids person_id t.persons ≡ true) × AreAllKept t

one_added : (id : ℤ) (person : Person) (old new : Tables) → AddsPerson id person old new → ArePersonsOwn old → ArePersonsOwn new
one_added id person old new it held = (
  subst (λ (t : Tables). have_own_ids person_id t.persons ≡ true) (sym it.made)
      (own_put person_id (person_row_of id it.id it.asker person) old.persons it.free held.0),
  person_added id person old new it held.0 held.1,
)

one_set : (id : ℤ) (person : Person) (old new : Tables) → SetsPerson id person old new → ArePersonsOwn old → ArePersonsOwn new
one_set id person old new it held =
    let row = person_row_of id it.id it.asker person in (
      subst (λ (t : Tables). have_own_ids person_id t.persons ≡ true) (sym it.made)
          (own_set person_id (λ (one : PersonRow). cond (int_eq one.id row.id) row one) (replaced_id row) old.persons held.0),
      person_replaced id person old new it held.0 held.1,
    )

added_leaves : (id : ℤ) (person : Person) (old new : Tables) → AddsPerson id person old new → new.trail ≡ old.trail
added_leaves id person old new it = ap (λ (t : Tables). t.trail) it.made

set_leaves : (id : ℤ) (person : Person) (old new : Tables) → SetsPerson id person old new → new.trail ≡ old.trail
set_leaves id person old new it = ap (λ (t : Tables). t.trail) it.made

-- ---- all of it

module _ (old new : Tables) (well : AreWellKept old) (newborn : Newborn) (it : PlacesLab (newborn_lab newborn) old new) where
  abbrev started : Tables
  started = put_lab (lab_row_of it.id (newborn_lab newborn)) old

  abbrev first_told : Told
  first_told = trail_row_of 1 newborn.moment None (Found newborn.code)

  enrolled_kept : ArePersonsOwn it.enrolled
  enrolled_kept =
      turns_keep (AddsPerson it.id) ArePersonsOwn (one_added it.id) (map unasked (newborn_lab newborn).persons) started it.enrolled it.persons
      ((own_ids old well.ids).persons, lab_more old well (newborn_lab newborn) it.id it.free)

  asked_kept : ArePersonsOwn it.asked
  asked_kept =
      turns_keep (SetsPerson it.id) ArePersonsOwn (one_set it.id) (filter is_asked_for (newborn_lab newborn).persons) it.enrolled it.asked it.asks enrolled_kept

  -- no session, no form and no record
  filed_is : it.filed ≡ it.asked
  filed_is = it.records ∙ it.forms ∙ it.sessions

  filed_kept : ArePersonsOwn it.filed
  filed_kept = subst ArePersonsOwn (sym filed_is) asked_kept

  same_trail : it.filed.trail ≡ old.trail
  same_trail =
      ap (λ (t : Tables). t.trail) filed_is
      ∙ turns_leave (SetsPerson it.id) (λ (t : Tables). t.trail) (set_leaves it.id)
      (filter is_asked_for (newborn_lab newborn).persons) it.enrolled it.asked it.asks
      ∙ turns_leave (AddsPerson it.id) (λ (t : Tables). t.trail) (added_leaves it.id) (map unasked (newborn_lab newborn).persons) started it.enrolled it.persons

  first_number : first_told.number ≡ length (filter (λ (one : TrailRow). int_eq one.lab it.id) it.filed.trail) + 1
  first_number =
      let none = ap (λ (rows : List TrailRow). filter (λ (one : TrailRow). int_eq one.lab it.id) rows) same_trail ∙ no_trail old well (newborn_lab newborn) it.id it.free in
      ap (λ (list : List TrailRow). length list + 1) (sym none)

  founded_kept : AreAllKept new
  founded_kept = subst AreAllKept (sym it.trail.2) (told_more it.filed filed_kept.0 it.id first_told first_number it.trail.0 it.trail.1 filed_kept.1)

pub founding_keeps : (old new : Tables) (newborn : Newborn) → AreWellKept old → IsByRules new → PlacesLab (newborn_lab newborn) old new → AreWellKept new
founding_keeps old new newborn well rules it = well_kept new rules (founded_kept old new well newborn it)
