-- A person more: the laboratory has the person before the first of a later code, nobody else's code changes, and no other laboratory
-- sees it.
use Rattle.std.proofs.Common.{◌≡◌, ℕ, ℤ, Bool, true, false, not, ◌&&◌, cond, List, [], ◌∷◌, filter, find, Option, Some, None, option_map, unwrap_or, is_some, refl, sym, ap, ap₂, subst, ◌∙◌, int_eq, bytes_eq, is_eq, is_gt, Ordering, Less, Equal, Greater}
use Rattle.std.specs.Cmp.{IsTotalOrder, on_total}
use Rattle.std.specs.Cmp.Lexicographic.{slice_cmp, nat_list_cmp_total}
use Rattle.std.specs.Ordering.{nat_cmp, match_ordering}
use Rattle.std.specs.List.{AllByRecursion, insert, position_or_len, list_any}
use Rattle.std.proofs.lemmas.Map.Text.{is_eq-slice_cmp}
use Rattle.sqlite_keyed.specs.Keyed.{has_key, insert_by}
use Rattle.sqlite_keyed.specs.Lists.{sort_by}
use Rattle.sqlite_keyed.proofs.ListLemmas.{all_weaker, none_from_any}
use Rattle.sqlite_keyed.proofs.KeyedLemmas.{same_int}
use Rattle.sqlite_keyed.proofs.SliceLemmas.{any_is_found, is_some-map}
use Rattle.lab_people_access.specs.declared.persons.Person.{Person}
use Rattle.lab_people_access.specs.Persons.{person_of}
use Rattle.lab_records_kept.specs.declared.changes.Change.TheVariants.{PersonAdded}
use Rattle.lab_records_kept.specs.Lookups.{comes_before}
use Rattle.lab_records_kept.specs.Changes.{added_person, change, ChangesFit}
use Rattle.lab_records_keeper.specs.Worlds.{Changes}
use Rattle.lab_store_tables.specs.Rows.{LabRow, PersonRow, Tables, person_id}
use Rattle.lab_store_tables.specs.Meaning.{lab_in, has_code, meaning, code_of, person_in, by_code, persons_of}
use Rattle.lab_store_tables.specs.WellKept.{AreWellKept}
use Rattle.lab_store_tables.specs.Changes.{IsFree, IsNamedIfAny, is_person, asker_of, person_row_of, put_person, Applies}
use Rattle.lab_store_tables.specs.Held.{AreRising}
use Rattle.lab_store_tables.specs.Family.{Persons}
use Rattle.lab_store_tables.proofs.SortLaws.{all_sorted}
use Rattle.lab_store_tables.proofs.LevelLaws.{other_has, own_has, placed_among}
use Rattle.lab_store_tables.proofs.NumberLaws.{each_admitted}
use Rattle.lab_store_tables.proofs.FindLaws.{person_is_found}
use Rattle.lab_store_tables.proofs.LabLaws.{alike, rows_changed}
use Rattle.lab_store_tables.proofs.Premises.{AreOwn, own_by_tests, AreWhole, whole_by_test, fits_here}
use Rattle.lab_store_tables.proofs.OneRow.{never, turned, got_beside}
use Rattle.lab_store_tables.proofs.CodeLaws.{persons_seen, person_back, lab_alike}
use Rattle.lab_store_tables.proofs.Comparing.{text_is, text_alike}

code_total : IsTotalOrder by_code
code_total = on_total (λ (one : PersonRow). one.code) nat_list_cmp_total

-- where two don't tie, the one comes before the other just where it doesn't come after it
before_not_after : (o : Ordering) → is_eq o ≡ false → match_ordering o true false false ≡ not (is_gt o)
before_not_after Less apart = refl
before_not_after Equal apart = absurd cc
before_not_after Greater apart = refl

texts_apart : (s t : List ℕ) → bytes_eq s t ≡ false → bytes_eq t s ≡ false
texts_apart s t apart = never (bytes_eq t s) (λ same. let yes : bytes_eq s t ≡ true = text_alike s t (sym (text_is t s same)) in cc)

module _ (t : Tables) (rising : AreRising t) (own : AreOwn t) (whole : AreWhole t) (code : List ℕ) (row : LabRow)
    (found : find (has_code code) t.labs ≡ Some row) (person : Person) (id : ℤ) (free : IsFree person_id t.persons id)
    (asker : Option ℤ) (named : IsNamedIfAny t row.id (asker_of person) asker)
    (nobody : person_of (persons_of t row.id) person.code ≡ None) where
  abbrev new : PersonRow
  new = person_row_of row.id id asker person

  abbrev people : List PersonRow
  people = insert_by person_id t.persons (person_row_of row.id id asker person)

  abbrev after : Tables
  after = put_person (person_row_of row.id id asker person) t

  abbrev lab_of : PersonRow → ℤ
  lab_of one = one.lab

  abbrev mine : ℤ → PersonRow → Bool
  mine lab one = int_eq one.lab lab

  -- no row is named by the new id, which was free
  codes : (at : ℤ) → has_key person_id t.persons at ≡ true → code_of (record t { persons = people }) at ≡ code_of t at
  codes at has = ap (λ o. unwrap_or (option_map (λ (one : PersonRow). one.code) o) []) (got_beside person_id t.persons new free at has)

  -- ---- the code is new to the laboratory

  none_named : list_any (is_person row.id person.code) t.persons ≡ false
  none_named =
      any_is_found (is_person row.id person.code) t.persons ∙ sym (is_some-map person_id (find (is_person row.id person.code) t.persons))
      ∙ sym (person_is_found t row.id person.code) ∙ ap is_some nobody

  others_apart : AllByRecursion (λ (one : PersonRow). bytes_eq one.code person.code ≡ false) (filter (mine row.id) t.persons)
  others_apart =
      each_admitted (λ (one : PersonRow). is_person row.id person.code one ≡ false) (λ (one : PersonRow). bytes_eq one.code person.code ≡ false) (mine row.id)
      (λ one here none. ap (λ b. b && bytes_eq one.code person.code) (sym here) ∙ none) t.persons
      (none_from_any (is_person row.id person.code) t.persons none_named)

  untied : AllByRecursion (λ (one : PersonRow). is_eq (by_code one new) ≡ false) (filter (mine row.id) t.persons)
  untied =
      all_weaker (λ (one : PersonRow). bytes_eq one.code person.code ≡ false) (λ (one : PersonRow). is_eq (by_code one new) ≡ false)
      (λ one apart. is_eq-slice_cmp one.code person.code ∙ apart) (filter (mine row.id) t.persons) others_apart

  placed : AllByRecursion (λ (one : PersonRow). comes_before person.code one.code ≡ not (is_gt (by_code new one)))
      (sort_by by_code (filter (mine row.id) t.persons))
  placed =
      all_sorted by_code (λ (one : PersonRow). comes_before person.code one.code ≡ not (is_gt (by_code new one))) (filter (mine row.id) t.persons)
      (all_weaker (λ (one : PersonRow). bytes_eq one.code person.code ≡ false)
      (λ (one : PersonRow). comes_before person.code one.code ≡ not (is_gt (by_code new one)))
      (λ one apart. before_not_after (slice_cmp nat_cmp person.code one.code) (is_eq-slice_cmp person.code one.code ∙ texts_apart one.code person.code apart))
      (filter (mine row.id) t.persons) others_apart)

  -- ---- the laboratory's persons

  own_persons : persons_of after row.id ≡ added_person person (persons_of t row.id)
  own_persons =
      own_has person_id lab_of by_code code_total (person_in after) t.persons (rising.at Persons) new free row.id (alike row.id row.id refl) untied
      ∙ placed_among by_code (person_in after) (λ (one : Person). comes_before person.code one.code) new
      (sort_by by_code (filter (mine row.id) t.persons)) placed
      ∙ ap₂ (λ list one. insert list (position_or_len (λ (x : Person). comes_before person.code x.code) list) one)
      (persons_seen t people whole codes row.id) (person_back t people whole codes row.id id asker person own.persons named)

  persons_law : (lab : ℤ) → persons_of after lab ≡ cond (int_eq lab row.id) (added_person person (persons_of t lab)) (persons_of t lab)
  persons_law lab = go (int_eq lab row.id) refl
    where
      go : (b : Bool) → int_eq lab row.id ≡ b → persons_of after lab ≡ cond b (added_person person (persons_of t lab)) (persons_of t lab)
      go true e = subst (λ l. persons_of after l ≡ added_person person (persons_of t l)) (sym (same_int lab row.id e)) own_persons
      go false e =
          other_has person_id lab_of by_code code_total (person_in after) t.persons (rising.at Persons) new free lab (turned lab row.id e)
          ∙ persons_seen t people whole codes lab

  by_case : (lab : LabRow) → lab_in after lab ≡ cond (int_eq lab.id row.id) (change (lab_in t lab) (PersonAdded person)) (lab_in t lab)
  by_case lab = go (int_eq lab.id row.id) (persons_law lab.id)
    where
      go : (b : Bool) → persons_of after lab.id ≡ cond b (added_person person (persons_of t lab.id)) (persons_of t lab.id)
          → lab_in after lab ≡ cond b (change (lab_in t lab) (PersonAdded person)) (lab_in t lab)
      go true law = lab_alike t people whole codes lab (added_person person (persons_of t lab.id)) law
      go false law = lab_alike t people whole codes lab (persons_of t lab.id) law

  person_changes : Changes code (PersonAdded person ∷ []) (meaning t) (meaning after)
  person_changes = rows_changed t after refl own.labs code row found (PersonAdded person) by_case

-- a person is added, whose code nobody of the laboratory has or had
pub person_is_added : {old new : Tables} {code : List ℕ} {person : Person} → AreRising old → AreWellKept old
    → ChangesFit (meaning old code) (PersonAdded person ∷ []) → Applies code (PersonAdded person) old new
    → Changes code (PersonAdded person ∷ []) (meaning old) (meaning new)
person_is_added {old} {new} {code} {person} rising well fit it =
    subst (λ t. Changes code (PersonAdded person ∷ []) (meaning old) (meaning t)) (sym it.made.made)
    (person_changes old rising (own_by_tests old well.ids well.keys) (whole_by_test old well.arrows) code it.lab it.found person it.made.id it.made.free
    it.made.asker it.made.named (fits_here old code it.lab (PersonAdded person) it.found fit).0)
