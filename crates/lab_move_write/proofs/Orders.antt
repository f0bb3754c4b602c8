-- Lists that stand in order, item by item: each stands before all later ones, so one that comes is placed behind all that are
-- there, and a person's code is new.
use Rattle.std.proofs.Common.{◌≡◌, ℕ, Bool, true, false, cond, List, [], ◌∷◌, ◌++◌, None, Some, refl, ap, ◌∙◌}
use Rattle.std.specs.List.{AllByRecursion}
use Rattle.std.proofs.lemmas.Slice.Eq.{bytes_eq-Decides}
use Rattle.sqlite_trees.specs.Tree.{IsAscending}
use Rattle.sqlite_keyed.proofs.ListLemmas.{all_of, all_weaker, all_both, all-append}
use Rattle.lab_people_access.specs.declared.persons.Person.{Person}
use Rattle.lab_people_access.specs.Persons.{person_of}
use Rattle.lab_records_kept.specs.declared.records.FormVersion.{FormVersion}
use Rattle.lab_records_kept.specs.Changes.{added_person, added_form, with_person}
use Rattle.lab_records_kept.specs.Limits.{AreInOrder, AreFormsInOrder}
use Rattle.lab_records_kept.specs.Lookups.{comes_before}
use Rattle.lab_records_laws.proofs.LimitOrder.{not_back, other_text, before_further, placed, is_placed}
use Rattle.lab_store_tables.specs.Placing.{unasked}

-- ---- items that come behind those that are there

abbrev pub AreBehind : {A : Type 0} → (A → A → Type 0) → List A → List A → Type 0
AreBehind before had rest = AllByRecursion (λ one. AllByRecursion (λ other. before other one) had) rest × IsAscending before rest

module _ {A : Type 0} (before : A → A → Type 0) where
  pub behind_none : (rest : List A) → IsAscending before rest → AreBehind before [] rest
  behind_none rest ascend = (all_of (λ one. AllByRecursion (λ other. before other one) []) (λ one. tt) rest, ascend)

  pub behind_one : (had : List A) (one : A) (others : List A) → AreBehind before had (one ∷ others) → AreBehind before (had ++ one ∷ []) others
  behind_one had one others it = (
    all_both (before one) (λ x. AllByRecursion (λ other. before other x) had) (λ x. AllByRecursion (λ other. before other x) (had ++ one ∷ []))
        (λ x later all. all-append (λ other. before other x) had (one ∷ []) all (later, tt)) others it.1.0 it.0.1,
    it.1.1,
  )

placed_last : {A : Type 0} (test : A → Bool) (item : A) (list : List A) → AllByRecursion (λ one. test one ≡ false) list → placed test item list ≡ list ++ item ∷ []
placed_last test item [] all = refl
placed_last test item (one ∷ others) all =
    ap (λ b. cond b (item ∷ one ∷ others) (one ∷ placed test item others)) all.0 ∙ ap (λ list. one ∷ list) (placed_last test item others all.1)

-- ---- persons

abbrev pub Earlier : Person → Person → Type 0
Earlier one other = comes_before one.code other.code ≡ true

pub persons_ascend : (persons : List Person) → AreInOrder persons → IsAscending Earlier persons
persons_ascend [] order = tt
persons_ascend (one ∷ []) order = (tt, tt)
persons_ascend (one ∷ other ∷ others) order =
    let rest = persons_ascend (other ∷ others) order.1 in (
      (
        order.0,
        all_weaker (Earlier other) (Earlier one) (λ x later. before_further one.code other.code x.code order.0 (not_back other.code x.code later)) others rest.0,
      ),
      rest,
    )

pub person_last : (person : Person) (persons : List Person) → AllByRecursion (λ one. Earlier one person) persons → added_person person persons ≡ persons ++ person ∷ []
person_last person persons all =
    is_placed (λ (one : Person). comes_before person.code one.code) person persons
    ∙ placed_last (λ (one : Person). comes_before person.code one.code) person persons
    (all_weaker (λ (one : Person). Earlier one person) (λ (one : Person). comes_before person.code one.code ≡ false)
    (λ one before. not_back one.code person.code before) persons all)

pub nobody_yet : (person : Person) (persons : List Person) → AllByRecursion (λ one. Earlier one person) persons → person_of persons person.code ≡ None
nobody_yet person [] all = refl
nobody_yet person (one ∷ others) all =
    ap (λ b. cond b (Some one) (person_of others person.code)) (other_text one.code person.code all.0) ∙ nobody_yet person others all.1

-- a person with what was asked for takes the place of the one without
pub set_in_place : (person : Person) (had rest : List Person) → AllByRecursion (λ one. Earlier one person) had
    → with_person person (had ++ unasked person ∷ rest) ≡ had ++ person ∷ rest
set_in_place person [] rest all =
    ap (λ b. cond b (person ∷ rest) (unasked person ∷ with_person person rest)) ((bytes_eq-Decides person.code person.code).1 refl)
set_in_place person (one ∷ had) rest all =
    ap (λ b. cond b (person ∷ (had ++ unasked person ∷ rest)) (one ∷ with_person person (had ++ unasked person ∷ rest))) (other_text one.code person.code all.0)
    ∙ ap (λ list. one ∷ list) (set_in_place person had rest all.1)

-- ---- versions of forms

abbrev pub NotLater : FormVersion → FormVersion → Type 0
NotLater one other = comes_before other.code one.code ≡ false

never_later : (one other third : List ℕ) → comes_before other one ≡ false → comes_before third other ≡ false → comes_before third one ≡ false
never_later one other third first second = go (comes_before third one) refl
  where
    go : (b : Bool) → comes_before third one ≡ b → comes_before third one ≡ false
    go true e = absurd (let back = before_further third one other e first in cc)
    go false e = e

pub forms_ascend : (forms : List FormVersion) → AreFormsInOrder forms → IsAscending NotLater forms
forms_ascend [] order = tt
forms_ascend (one ∷ []) order = (tt, tt)
forms_ascend (one ∷ other ∷ others) order =
    let rest = forms_ascend (other ∷ others) order.1 in (
      (order.0, all_weaker (NotLater other) (NotLater one) (λ x later. never_later one.code other.code x.code order.0 later) others rest.0),
      rest,
    )

pub form_last : (form : FormVersion) (forms : List FormVersion) → AllByRecursion (λ one. NotLater one form) forms → added_form form forms ≡ forms ++ form ∷ []
form_last form forms all =
    is_placed (λ (one : FormVersion). comes_before form.code one.code) form forms
    ∙ placed_last (λ (one : FormVersion). comes_before form.code one.code) form forms all
