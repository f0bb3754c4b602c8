-- What is placed for a newborn laboratory means it, and nothing else: its founders, for whom nothing was asked, stand in the
-- order of their codes, each added as a row that it alone sees; its sessions, forms and records are none; and the first row of
-- its trail tells of its founding.
use Rattle.std.proofs.Common.{◌≡◌, true, false, List, [], ◌∷◌, map, filter, Option, None, is_some, refl, sym, ap, ap₂, subst, ◌∙◌}
use Rattle.sqlite_keyed.specs.Keyed.{has_key}
use Rattle.sqlite_keyed.proofs.ListLemmas.{all_weaker, filter_none}
use Rattle.lab_people_access.specs.declared.persons.Person.{Person}
use Rattle.lab_people_access.specs.declared.persons.Ask.{Ask}
use Rattle.lab_records_kept.specs.declared.births.Newborn.{Newborn}
use Rattle.lab_records_kept.specs.declared.labs.Lab.{Lab}
use Rattle.lab_records_kept.specs.declared.trails.TrailRow.{TrailRow as Told}
use Rattle.lab_records_kept.specs.declared.trails.Deed.TheVariants.{Found}
use Rattle.lab_records_kept.specs.Births.{newborn_lab}
use Rattle.lab_records_kept.specs.Trails.{trail_row_of}
use Rattle.lab_records_keeper.specs.Worlds.{Places}
use Rattle.lab_store_tables.specs.Rows.{Tables, trail_id}
use Rattle.lab_store_tables.specs.Meaning.{meaning}
use Rattle.lab_store_tables.specs.WellKept.{same_person, are_ids_unique, are_keys_unique, are_arrows_whole, AreWellKept}
use Rattle.lab_store_tables.specs.Changes.{InTurn, put_told, told_row_of, in_lab, AddsPerson, SetsPerson}
use Rattle.lab_store_tables.specs.Placing.{lab_row_of, put_lab, unasked, is_asked_for, PlacesLab}
use Rattle.lab_store_tables.specs.Held.{AreRising}
use Rattle.lab_store_tables.specs.Founding.{PlacesNewborn}
use Rattle.lab_store_tables.proofs.Bridges.{apart_from_test}
use Rattle.lab_store_tables.proofs.Parts.{codes_apart, arrows_led}
use Rattle.lab_store_tables.proofs.CodeOrder.{founders_in_order, all_founders}
use Rattle.lab_store_tables.proofs.Enrolments.{AreUnasked, Enrols, rows_enrolled, persons_alone}
use Rattle.lab_store_tables.proofs.FoundedMeaning.{counting, with_lab, IsPlacing, lab_is_placed}
use Rattle.lab_store_tables.proofs.FoundedKept.{kept_with_lab}

-- ---- persons for whom nothing was asked

all_as_they_are : (persons : List Person) → AreUnasked persons → map unasked persons ≡ persons
all_as_they_are [] none = refl
all_as_they_are (person ∷ others) none = ap₂ ◌∷◌ (λ i. record person { ask = sym none.0 i }) (all_as_they_are others none.1)

nobody_asked_for : (persons : List Person) → AreUnasked persons → filter is_asked_for persons ≡ []
nobody_asked_for persons none =
    filter_none is_asked_for persons
    (all_weaker (λ (one : Person). one.ask ≡ None) (λ (one : Person). is_asked_for one ≡ false)
    (λ one h. ap (λ (ask : Option Ask). is_some ask) h) persons none)

-- ---- the laboratory

module _ (newborn : Newborn) (old new : Tables) (nobody : AreUnasked (newborn_lab newborn).persons) (it : PlacesLab (newborn_lab newborn) old new) where
  abbrev lab : Lab
  lab = newborn_lab newborn

  -- the row that tells of the founding
  abbrev told : Told
  told = trail_row_of 1 newborn.moment None (Found newborn.code)

  abbrev begun : Tables
  begun = put_lab (lab_row_of it.id lab) old

  in_turn : InTurn (AddsPerson it.id) lab.persons begun it.enrolled
  in_turn = subst (λ persons. InTurn (AddsPerson it.id) persons begun it.enrolled) (all_as_they_are lab.persons nobody) it.persons

  rows : Enrols it.id lab.persons old.persons it.enrolled.persons
  rows = rows_enrolled it.id lab.persons begun it.enrolled nobody in_turn

  none_set : it.asked ≡ it.enrolled
  none_set = subst (λ persons. InTurn (SetsPerson it.id) persons it.enrolled it.asked) (nobody_asked_for lab.persons nobody) it.asks

  filed : it.filed ≡ record begun { persons = it.enrolled.persons }
  filed =
      let records : it.filed ≡ it.formed = it.records in
      let forms : it.formed ≡ it.opened = it.forms in
      let sessions : it.opened ≡ it.asked = it.sessions in
      records ∙ forms ∙ sessions ∙ none_set ∙ persons_alone it.id lab.persons begun it.enrolled in_turn

  -- nobody is named by the row
  unnamed : it.trail.1.person ≡ None
  unnamed = it.trail.1.named

  after_all : new ≡ with_lab old lab it.id it.enrolled.persons told it.trail.1.id
  after_all =
      let last : new ≡ it.trail.0 = it.trail.2 in
      last ∙ it.trail.1.made
      ∙ (λ i. in_lab it.id (counting told) (put_told (told_row_of it.id it.trail.1.id (unnamed i) told) (filed i)))

  free_told : has_key trail_id old.trail it.trail.1.id ≡ false
  free_told = subst (λ (t : Tables). has_key trail_id t.trail it.trail.1.id ≡ false) filed it.trail.1.free

  placing : are_keys_unique new ≡ true → IsPlacing old lab it.id it.enrolled.persons told it.trail.1.id
  placing keys = record {
    absent = it.absent;
    free = it.free;
    enrolled = rows;
    apart = apart_from_test same_person it.enrolled.persons
        (codes_apart (with_lab old lab it.id it.enrolled.persons told it.trail.1.id) (subst (λ t. are_keys_unique t ≡ true) after_all keys));
    unasked = nobody;
    order = founders_in_order newborn;
    free_told = free_told;
    first = refl;
    nobody = refl;
  }

  pub lab_is_founded : AreRising old → AreWellKept old → are_ids_unique new ≡ true → are_keys_unique new ≡ true → are_arrows_whole new ≡ true
      → Places lab (meaning old) (meaning new) × AreWellKept new
  lab_is_founded rising well ids keys arrows =
      subst (λ t. Places lab (meaning old) (meaning t) × AreWellKept t) (sym after_all) (
        lab_is_placed old rising (arrows_led old well.arrows) lab it.id it.enrolled.persons told it.trail.1.id (placing keys),
        kept_with_lab old rising well lab it.id it.enrolled.persons told it.trail.1.id (placing keys) (subst (λ t. are_ids_unique t ≡ true) after_all ids)
            (subst (λ t. are_keys_unique t ≡ true) after_all keys) (subst (λ t. are_arrows_whole t ≡ true) after_all arrows),
      )

-- a laboratory that is founded, by three persons for whom nothing was asked
pub founded_is_placed : (old new : Tables) (newborn : Newborn) → AreRising old → AreWellKept old → PlacesNewborn newborn old new
    → Places (newborn_lab newborn) (meaning old) (meaning new) × AreWellKept new
founded_is_placed old new newborn rising well it =
    lab_is_founded newborn old new (all_founders (λ (one : Person). one.ask ≡ None) newborn it.first it.second it.third) it.placed rising well
    it.rules.ids it.rules.keys it.rules.arrows
