-- A person who is set: the laboratory has the person in the place of the one of that code, nobody else's code changes, and no other
-- laboratory sees it.
use Rattle.std.proofs.Common.{◌≡◌, ℕ, ℤ, Bool, true, false, cond, List, [], ◌∷◌, find, Option, Some, None, option_map, unwrap_or, refl, sym, ap, ap₂, subst, ◌∙◌, int_eq, bytes_eq}
use Rattle.std.specs.Ordering.{nat_cmp}
use Rattle.std.specs.Cmp.Lexicographic.{slice_cmp}
use Rattle.std.proofs.lemmas.Bool.{and_parts}
use Rattle.sqlite_rules.specs.Lists.{Has}
use Rattle.sqlite_rules.proofs.ListLemmas.{all_from, has_found}
use Rattle.sqlite_keyed.specs.Keyed.{has_key}
use Rattle.sqlite_keyed.specs.Lists.{update_where}
use Rattle.sqlite_keyed.proofs.KeyedLemmas.{same_int}
use Rattle.lab_people_access.specs.declared.persons.Person.{Person}
use Rattle.lab_records_kept.specs.declared.changes.Change.TheVariants.{PersonSet}
use Rattle.lab_records_kept.specs.Changes.{with_person, change}
use Rattle.lab_records_keeper.specs.Worlds.{Changes}
use Rattle.lab_store_tables.specs.Rows.{LabRow, PersonRow, Tables, person_id}
use Rattle.lab_store_tables.specs.Meaning.{lab_in, has_code, meaning, code_of, person_in, persons_of}
use Rattle.lab_store_tables.specs.WellKept.{AreWellKept}
use Rattle.lab_store_tables.specs.Changes.{IsNamedIfAny, is_person, asker_of, person_row_of, set_person, Applies}
use Rattle.lab_store_tables.proofs.LabLaws.{rows_changed}
use Rattle.lab_store_tables.proofs.Premises.{AreOwn, own_by_tests, AreWhole, whole_by_test}
use Rattle.lab_store_tables.proofs.OneRow.{told_by_text, set_first, kept, read_kept, row_is_set}
use Rattle.lab_store_tables.proofs.CodeLaws.{persons_seen, person_back, lab_alike}
use Rattle.lab_store_tables.proofs.Comparing.{text_is}

with_person_is : (person : Person) (persons : List Person)
    → with_person person persons ≡ set_first (λ (one : Person). bytes_eq one.code person.code) person persons
with_person_is person [] = refl
with_person_is person (one ∷ others) = ap (λ list. cond (bytes_eq one.code person.code) (person ∷ others) (one ∷ list)) (with_person_is person others)

module _ (t : Tables) (own : AreOwn t) (whole : AreWhole t) (code : List ℕ) (row : LabRow) (found : find (has_code code) t.labs ≡ Some row)
    (person : Person) (top : PersonRow) (top_found : find (is_person row.id person.code) t.persons ≡ Some top)
    (asker : Option ℤ) (named : IsNamedIfAny t row.id (asker_of person) asker) where
  abbrev new : PersonRow
  new = person_row_of row.id top.id asker person

  abbrev people : List PersonRow
  people = update_where (λ (one : PersonRow). int_eq one.id top.id) (λ (one : PersonRow). person_row_of row.id top.id asker person) t.persons

  abbrev after : Tables
  after = set_person (person_row_of row.id top.id asker person) t

  abbrev lab_of : PersonRow → ℤ
  lab_of one = one.lab

  abbrev word_of : PersonRow → List ℕ
  word_of one = one.code

  there : Has t.persons top × (is_person row.id person.code top ≡ true)
  there = has_found (is_person row.id person.code) t.persons top top_found

  whose : top.lab ≡ row.id
  whose = same_int top.lab row.id (and_parts (int_eq top.lab row.id) (bytes_eq top.code person.code) there.1).0

  has_word : top.code ≡ person.code
  has_word = text_is top.code person.code (and_parts (int_eq top.lab row.id) (bytes_eq top.code person.code) there.1).1

  -- everybody keeps id and code
  codes : (id : ℤ) → has_key person_id t.persons id ≡ true → code_of (record t { persons = people }) id ≡ code_of t id
  codes id has =
      ap (λ o. unwrap_or o [])
      (read_kept person_id word_of (λ (one : PersonRow). cond (int_eq one.id top.id) new one) t.persons
      (all_from
      (λ (one : PersonRow). (person_id (cond (int_eq one.id top.id) new one) ≡ one.id) × (word_of (cond (int_eq one.id top.id) new one) ≡ one.code))
      t.persons
      (λ one it. (
        kept person_id t.persons own.person_ids top there.0 new refl person_id refl one it,
        kept person_id t.persons own.person_ids top there.0 new refl word_of (sym has_word) one it,
      )))
      id)

  persons_law : (lab : ℤ) → persons_of after lab ≡ cond (int_eq lab row.id) (with_person person (persons_of t lab)) (persons_of t lab)
  persons_law lab =
      row_is_set person_id t.persons own.person_ids top there.0 new refl lab_of word_of (slice_cmp nat_cmp) (sym whose) (sym has_word)
      (person_in after) (λ (one : Person). bytes_eq one.code person.code)
      (told_by_text person_id lab_of word_of t.persons own.person_ids own.person_codes top there.0 person.code has_word) lab
      ∙ ap₂ (λ at list. cond (int_eq lab at) (set_first (λ (one : Person). bytes_eq one.code person.code) (person_in after new) list) list) whose
      (persons_seen t people whole codes lab)
      ∙ ap (λ list. cond (int_eq lab row.id) list (persons_of t lab))
      (ap (λ one. set_first (λ (x : Person). bytes_eq x.code person.code) one (persons_of t lab))
      (person_back t people whole codes row.id top.id asker person own.persons named)
      ∙ sym (with_person_is person (persons_of t lab)))

  by_case : (lab : LabRow) → lab_in after lab ≡ cond (int_eq lab.id row.id) (change (lab_in t lab) (PersonSet person)) (lab_in t lab)
  by_case lab = go (int_eq lab.id row.id) (persons_law lab.id)
    where
      go : (b : Bool) → persons_of after lab.id ≡ cond b (with_person person (persons_of t lab.id)) (persons_of t lab.id)
          → lab_in after lab ≡ cond b (change (lab_in t lab) (PersonSet person)) (lab_in t lab)
      go true law = lab_alike t people whole codes lab (with_person person (persons_of t lab.id)) law
      go false law = lab_alike t people whole codes lab (persons_of t lab.id) law

  person_changes : Changes code (PersonSet person ∷ []) (meaning t) (meaning after)
  person_changes = rows_changed t after refl own.labs code row found (PersonSet person) by_case

-- a person is set, and is found by the code
pub person_is_set : {old new : Tables} {code : List ℕ} {person : Person} → AreWellKept old → Applies code (PersonSet person) old new
    → Changes code (PersonSet person ∷ []) (meaning old) (meaning new)
person_is_set {old} {new} {code} {person} well it =
    subst (λ t. Changes code (PersonSet person ∷ []) (meaning old) (meaning t)) (sym it.made.made)
    (go (find (is_person it.lab.id person.code) old.persons) refl it.made.found)
  where
    go : (o : Option PersonRow) → find (is_person it.lab.id person.code) old.persons ≡ o → option_map person_id o ≡ Some it.made.id
        → Changes code (PersonSet person ∷ []) (meaning old) (meaning (set_person (person_row_of it.lab.id it.made.id it.made.asker person) old))
    go None e h = absurd cc
    go (Some top) e h =
        let is : top.id ≡ it.made.id = ap (λ o. unwrap_or o top.id) h in
        subst (λ id. Changes code (PersonSet person ∷ []) (meaning old) (meaning (set_person (person_row_of it.lab.id id it.made.asker person) old))) is
        (person_changes old (own_by_tests old well.ids well.keys) (whole_by_test old well.arrows) code it.lab it.found person top e it.made.asker it.made.named)
