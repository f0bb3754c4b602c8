-- Changes by a person who is known by code and id: who is so before one of them is so after it.
use Rattle.std.proofs.Common.{◌≡◌, ℕ, ◌+◌, ◌<◌, ℤ, Bool, true, false, ◌&&◌, cond, List, [], ◌∷◌, map, find, take, length, get_or, Option, Some, None, option_map, IsTrue, refl, sym, ap, ap₂, ◌∙◌, int_eq, bytes_eq}
use Rattle.std.specs.List.{AllByRecursion, list_all}
use Rattle.std.proofs.lemmas.Bool.{and_parts}
use Rattle.std.proofs.lemmas.List.Folds.{list_all_at}
use Rattle.sqlite_rules.specs.Lists.{Has}
use Rattle.sqlite_rules.proofs.ListLemmas.{all_from}
use Rattle.sqlite_keyed.proofs.KeyedLemmas.{same_int}
use Rattle.sqlite.specs.Effect.{IsDatabase}
use Rattle.sqlite.specs.State.{State}
use Rattle.lab_people_access.specs.declared.persons.Person.{Person}
use Rattle.lab_records_kept.specs.declared.changes.Change.{Change}
use Rattle.lab_records_kept.specs.declared.changes.Change.TheVariants.{Last, Strays, PersonAdded, PersonSet, SessionAdded, SessionSet, SessionsClosed, FormAdded, RecordAdded, RowAdded, VersionOpened, SignatureAdded, TrailAdded}
use Rattle.lab_store_tables.specs.Rows.{PersonRow, Tables, person_id}
use Rattle.lab_store_tables.specs.Changes.{is_person, person_named, person_row_of, SetsPerson}
use Rattle.lab_store_tables.specs.WellKept.{have_own_ids}
use Rattle.lab_store_tables.specs.Held.{AreRising}
use Rattle.lab_store_tables.specs.Ready.{tables_of}
use Rattle.lab_store_tables.specs.Steps.{AppliesWhereKept, StepsBy}
use Rattle.lab_store_tables.proofs.Bridges.{apart_from_test}
use Rattle.lab_store_tables.proofs.Ids.{own_ids}
use Rattle.lab_store_tables.proofs.KeptByRules.{ids_by_order}
use Rattle.lab_store_tables.proofs.Named.{the_row}
use Rattle.lab_store_tables.proofs.OneRow.{kept}
use Rattle.lab_store_write.specs.declared.named.Giver.{Giver}
use Rattle.lab_store_write.specs.Calls.{Steps, MadeFrom}
use Rattle.lab_store_write.specs.Givers.{Knows}
use Rattle.lab_store_write.proofs.Givers.{known_still}
use Rattle.lab_store_write_changes.proofs.Leaving.{form_leaves, record_leaves, version_leaves}
use Rattle.lab_store_write.proofs.Inside.{turn_more}
use Rattle.lab_store_write_changes.specs.Framed.{spares_last}
use Rattle.lab_store_write_changes.specs.Private.Framed.{keeps_giver, StepsKnowing}
use Rattle.lab_store_write_changes.proofs.Steps.{rules_of}
use Rattle.lab_store_tables.proofs.Comparing.{text_is}

-- ---- who is named, where one of the persons is set

find_kept : (p : PersonRow → Bool) (next : PersonRow → PersonRow) (rows : List PersonRow)
    → AllByRecursion (λ one. (p (next one) ≡ p one) × ((next one).id ≡ one.id)) rows
    → option_map person_id (find p (map next rows)) ≡ option_map person_id (find p rows)
find_kept p next [] all = refl
find_kept p next (one ∷ others) all =
    ap (λ b. option_map person_id (cond b (Some (next one)) (find p (map next others)))) all.0.0 ∙ go (p one) (find_kept p next others all.1)
  where
    go : (b : Bool) → option_map person_id (find p (map next others)) ≡ option_map person_id (find p others)
        → option_map person_id (cond b (Some (next one)) (find p (map next others))) ≡ option_map person_id (cond b (Some one) (find p others))
    go true more = ap Some all.0.1
    go false more = more

abbrev persons_of : Tables → List PersonRow
persons_of t = t.persons

module _ (old new : Tables) (rising : AreRising old) (lab : ℤ) (person : Person) (it : SetsPerson lab person old new) where
  abbrev row : PersonRow
  row = person_row_of lab it.id it.asker person

  own : have_own_ids person_id old.persons ≡ true
  own = (own_ids old (ids_by_order old rising)).persons

  found_row : (one : PersonRow) × (is_person lab person.code one ≡ true) × Has old.persons one × (one.id ≡ it.id)
  found_row = let top = the_row person_id (is_person lab person.code) old.persons own it.id it.found in (top.0, top.2, top.3, top.4)

  alike_to_it : (code : List ℕ) → is_person lab code row ≡ is_person lab code found_row.0
  alike_to_it code =
      let parts = and_parts (int_eq found_row.0.lab lab) (bytes_eq found_row.0.code person.code) found_row.1 in
      ap₂ (λ (at : ℤ) (text : List ℕ). int_eq at lab && bytes_eq text code) (sym (same_int found_row.0.lab lab parts.0)) (sym (text_is found_row.0.code person.code parts.1))

  set_names : (code : List ℕ) → person_named new lab code ≡ person_named old lab code
  set_names code =
      let next = λ (one : PersonRow). cond (int_eq one.id it.id) row one in
      let apart = apart_from_test (λ (one other : PersonRow). int_eq one.id other.id) old.persons own in
      ap (λ (t : Tables). person_named t lab code) it.made
      ∙ find_kept (is_person lab code) next old.persons
      (all_from (λ one. (is_person lab code (next one) ≡ is_person lab code one) × ((next one).id ≡ one.id)) old.persons
      (λ one has. (
        kept person_id old.persons apart found_row.0 found_row.2 row (sym found_row.3) (is_person lab code) (alike_to_it code) one has,
        kept person_id old.persons apart found_row.0 found_row.2 row (sym found_row.3) person_id (sym found_row.3) one has,
      )))

-- ---- one change more

module _ (lab : ℤ) where
  still_known : (giver : Giver) (one : Change) (old new : Tables) → AreRising old → spares_last one ≡ true → AppliesWhereKept lab one old new
      → Knows lab (Some giver) old → Knows lab (Some giver) new
  still_known giver (Last moment) old new rising spared it known = absurd cc
  still_known giver (Strays count) old new rising spared it known = absurd cc
  still_known giver (PersonAdded person) old new rising spared it known = absurd cc
  still_known giver (PersonSet person) old new rising spared it known = set_names old new rising lab person it giver.code.now ∙ known
  still_known giver (SessionAdded session) old new rising spared it known = known_still lab (Some giver) old new (ap persons_of it.made) known
  still_known giver (SessionSet session) old new rising spared it known = known_still lab (Some giver) old new (ap persons_of it.made) known
  still_known giver (SessionsClosed person closing) old new rising spared it known = absurd cc
  still_known giver (FormAdded form) old new rising spared it known = known_still lab (Some giver) old new (form_leaves lab form old new it) known
  still_known giver (RecordAdded kept) old new rising spared it known = known_still lab (Some giver) old new (record_leaves lab kept old new it) known
  still_known giver (RowAdded number row) old new rising spared it known = known_still lab (Some giver) old new (ap persons_of it.added.made) known
  still_known giver (VersionOpened number version) old new rising spared it known =
      known_still lab (Some giver) old new (ap persons_of it.current ∙ version_leaves lab it.kept.id version old it.opened it.added) known
  still_known giver (SignatureAdded number version signature) old new rising spared it known =
      known_still lab (Some giver) old new (ap persons_of it.added.made) known
  still_known giver (TrailAdded told) old new rising spared it known = absurd cc

  spared_at : (changes : List Change) (i : ℕ) (d : Change) → i < length changes → list_all spares_last changes ≡ true → spares_last (get_or changes i d) ≡ true
  spared_at changes i d within all = go (spares_last (get_or changes i d)) refl
    where
      go : (b : Bool) → spares_last (get_or changes i d) ≡ b → b ≡ true
      go true is = refl
      go false is = absurd (let none = list_all_at spares_last changes i d within is in cc)

  kept_known : (giver : Option Giver) (changes : List Change) (i : ℕ) (d : Change) → i < length changes → keeps_giver giver changes ≡ true
      → (old new : Tables) → AreRising old → AppliesWhereKept lab (get_or changes i d) old new → Knows lab giver old → Knows lab giver new
  kept_known None changes i d within spared old new rising it known = tt
  kept_known (Some giver) changes i d within spared old new rising it known =
      still_known giver (get_or changes i d) old new rising (spared_at changes i d within spared) it known

  module _ (giver : Option Giver) where
    pub none_known : (s : State) → IsTrue s.in_transaction → Steps (StepsKnowing lab giver []) s s
    none_known s inside = record { inside = inside; made = λ typed. (typed, λ known. (refl, known)); sound = λ typed rules. rules }

    pub one_more_known : (changes : List Change) (i : ℕ) (d : Change) → i < length changes → keeps_giver giver changes ≡ true → (a b c : State)
        → IsDatabase a.now → Steps (StepsKnowing lab giver (take i changes)) a b → Steps (MadeFrom (Knows lab giver) (AppliesWhereKept lab (get_or changes i d))) b c
        → Steps (StepsKnowing lab giver (take (i + 1) changes)) a c
    one_more_known changes i d within spared a b c rules p q = record {
      inside = q.inside;
      made = λ typed.
          let one = p.made typed in
          let two = q.made one.0 in
          let still = rules_of c.now two.0 (q.sound one.0 (p.sound typed rules)) in (
            two.0,
            λ known.
                let so_far = one.1 known in
                let applies = two.1 so_far.1 in
                let step : StepsBy lab (get_or changes i d) (tables_of b) (tables_of c) = record { applies = applies; rising = two.0.rising; rules = still } in (
                  turn_more (StepsBy lab) changes i d within (tables_of a) (tables_of b) (tables_of c) so_far.0 step,
                  kept_known giver changes i d within spared (tables_of b) (tables_of c) one.0.rising applies so_far.1,
                ),
          );
      sound = λ typed sound. q.sound (p.made typed).0 (p.sound typed sound);
    }
