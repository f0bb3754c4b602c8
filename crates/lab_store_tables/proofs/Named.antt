-- Who and what is named by a code or a number is found under its id, and belongs to the laboratory in which it is named.
use Rattle.std.proofs.Common.{◌≡◌, inl, inr, ℕ, ℤ, Bool, true, false, ◌&&◌, ◌==◌, cond, List, [], ◌∷◌, find, Option, Some, None, option_map, option_and_then, unwrap_or, refl, sym, ap, ap₂, ◌∙◌, int_eq, bytes_eq}
use Rattle.std.specs.Option.{option_map_or}
use Rattle.std.proofs.lemmas.Bool.{and_parts}
use Rattle.sqlite_rules.specs.Lists.{Has}
use Rattle.sqlite_rules.proofs.ListLemmas.{all_has, has_found}
use Rattle.sqlite_keyed.specs.Keyed.{get_by}
use Rattle.sqlite_keyed.specs.Rules.{AreApart}
use Rattle.sqlite_keyed.proofs.KeyedLemmas.{same_int}
use Rattle.lab_store_tables.specs.Rows.{PersonRow, FormRow, RecordRow, VersionRow, Tables, person_id, form_id, record_id, version_id}
use Rattle.lab_store_tables.specs.WellKept.{have_own_ids, lab_of_person, lab_of_form, lab_of_record, lab_of_version, is_same, is_of_lab}
use Rattle.lab_store_tables.specs.Changes.{is_person, person_named, IsNamedIfAny, is_form_row, form_named, is_record_row, record_named, is_version_row, version_named}
use Rattle.lab_store_tables.proofs.Bridges.{apart_from_test}
use Rattle.lab_store_tables.proofs.LabLaws.{alike, same_id}

-- ---- ids and texts

pub turned_too : (a b : ℤ) → int_eq a b ≡ true → int_eq b a ≡ true
turned_too a b h = alike b a (sym (same_int a b h))

-- a row is found by its own id
pub own_found : {X : Type 0} (id : X → ℤ) (rows : List X) (one : X) → AreApart (λ a b. int_eq (id a) (id b)) rows → Has rows one
    → get_by id rows (id one) ≡ Some one
own_found id [] one apart has = absurd has
own_found id (x ∷ rows) one apart has = go (int_eq (id x) (id one)) refl has (own_found id rows one apart.1)
  where
    go : (b : Bool) → int_eq (id x) (id one) ≡ b → Has (x ∷ rows) one → (Has rows one → get_by id rows (id one) ≡ Some one)
        → cond b (Some x) (get_by id rows (id one)) ≡ Some one
    go true e h more = ap Some (same_id id (x ∷ rows) x one apart (inl refl) h (same_int (id x) (id one) e))
    go false e (inl h) more = absurd (let yes : int_eq (id x) (id one) ≡ true = alike (id x) (id one) (ap id (sym h)) in cc)
    go false e (inr h) more = more h

-- two rows of one key are one
pub same_key : {X : Type 0} (clash : X → X → Bool) (rows : List X) (a b : X) → AreApart clash rows → Has rows a → Has rows b → clash a b ≡ true
    → clash b a ≡ true → a ≡ b
same_key clash [] a b apart h k there back = absurd h
same_key clash (x ∷ rows) a b apart (inl h) (inl k) there back = h ∙ sym k
same_key clash (x ∷ rows) a b apart (inl h) (inr k) there back =
    absurd (let none = all_has (λ y. clash x y ≡ false) rows b apart.0 k in let all : clash x b ≡ true = ap (λ y. clash y b) (sym h) ∙ there in cc)
same_key clash (x ∷ rows) a b apart (inr h) (inl k) there back =
    absurd (let none = all_has (λ y. clash x y ≡ false) rows a apart.0 h in let all : clash x a ≡ true = ap (λ y. clash y a) (sym k) ∙ back in cc)
same_key clash (x ∷ rows) a b apart (inr h) (inr k) there back = same_key clash rows a b apart.1 h k there back

-- the row whose id a search gives
module _ {X : Type 0} (id : X → ℤ) (p : X → Bool) (rows : List X) (own : have_own_ids id rows ≡ true) (at : ℤ) where
  pub the_row : option_map id (find p rows) ≡ Some at → (one : X) × (get_by id rows at ≡ Some one) × (p one ≡ true) × Has rows one × (id one ≡ at)
  the_row named = go (find p rows) refl named
    where
      go : (o : Option X) → find p rows ≡ o → option_map id o ≡ Some at
          → (one : X) × (get_by id rows at ≡ Some one) × (p one ≡ true) × Has rows one × (id one ≡ at)
      go None e h = absurd cc
      go (Some one) e h =
          let there = has_found p rows one e in
          let is : id one ≡ at = ap (λ o. unwrap_or o (id one)) h in
          (one, ap (get_by id rows) (sym is) ∙ own_found id rows one (apart_from_test (λ a b. int_eq (id a) (id b)) rows own) there.0, there.1, there.0, is)

-- ---- one laboratory

pub of_same : (one other : Option ℤ) (lab : ℤ) → one ≡ Some lab → other ≡ Some lab → is_same one other ≡ true
of_same one other lab h k = ap₂ is_same h k ∙ alike lab lab refl

-- ---- persons

pub named_lab : (t : Tables) → have_own_ids person_id t.persons ≡ true → (lab : ℤ) (code : List ℕ) (id : ℤ) → person_named t lab code ≡ Some id
    → lab_of_person t id ≡ Some lab
named_lab t own lab code id named =
    let it = the_row person_id (is_person lab code) t.persons own id named in
    ap (option_map (λ (x : PersonRow). x.lab)) it.1 ∙ ap Some (same_int it.0.lab lab (and_parts (int_eq it.0.lab lab) (bytes_eq it.0.code code) it.2).0)

pub named_if_any : (t : Tables) → have_own_ids person_id t.persons ≡ true → (lab : ℤ) (code : Option (List ℕ)) (person : Option ℤ)
    → IsNamedIfAny t lab code person
    → is_of_lab t lab person ≡ true
named_if_any t own lab None person named = ap (is_of_lab t lab) named
named_if_any t own lab (Some code) person named =
    ap (is_of_lab t lab) named.2 ∙ of_same (lab_of_person t named.0) (Some lab) lab (named_lab t own lab code named.0 named.1) refl

-- ---- forms

module _ (t : Tables) (own : have_own_ids form_id t.forms ≡ true) (lab : ℤ) (code : List ℕ) (version : ℕ) (id : ℤ)
    (named : form_named t lab code version ≡ Some id) where
  its_form : (one : FormRow) × (get_by form_id t.forms id ≡ Some one) × (is_form_row lab code version one ≡ true) × Has t.forms one × (form_id one ≡ id)
  its_form = the_row form_id (is_form_row lab code version) t.forms own id named

  its_key : (int_eq its_form.0.lab lab && bytes_eq its_form.0.code code) ≡ true
  its_key = (and_parts (int_eq its_form.0.lab lab && bytes_eq its_form.0.code code) (its_form.0.version == version) its_form.2).0

  pub form_lab : lab_of_form t id ≡ Some lab
  form_lab =
      ap (option_map (λ (x : FormRow). x.lab)) its_form.1
      ∙ ap Some (same_int its_form.0.lab lab (and_parts (int_eq its_form.0.lab lab) (bytes_eq its_form.0.code code) its_key).0)

  pub form_code : option_map_or (λ (x : FormRow). bytes_eq x.code code) (get_by form_id t.forms id) false ≡ true
  form_code =
      ap (λ o. option_map_or (λ (x : FormRow). bytes_eq x.code code) o false) its_form.1
      ∙ (and_parts (int_eq its_form.0.lab lab) (bytes_eq its_form.0.code code) its_key).1

-- ---- records and versions

module _ (t : Tables) (own : have_own_ids record_id t.records ≡ true) (lab : ℤ) (number : ℕ) (kept : RecordRow)
    (named : record_named t lab number ≡ Some kept) where
  pub record_there : Has t.records kept × (is_record_row lab number kept ≡ true)
  record_there = has_found (is_record_row lab number) t.records kept named

  pub record_is_of : kept.lab ≡ lab
  record_is_of = same_int kept.lab lab (and_parts (int_eq kept.lab lab) (kept.number == number) record_there.1).0

  pub record_lab : lab_of_record t kept.id ≡ Some lab
  record_lab =
      ap (option_map (λ (x : RecordRow). x.lab)) (own_found record_id t.records kept
      (apart_from_test (λ a b. int_eq (record_id a) (record_id b)) t.records own) record_there.0)
      ∙ ap Some record_is_of

-- a version that is named belongs to its record's laboratory
pub version_lab : (t : Tables) → have_own_ids version_id t.versions ≡ true → (kept : ℤ) (number : ℕ) (id lab : ℤ) → version_named t kept number ≡ Some id
    → lab_of_record t kept ≡ Some lab
    → lab_of_version t id ≡ Some lab
version_lab t own kept number id lab named its =
    let it = the_row version_id (is_version_row kept number) t.versions own id named in
    ap (option_and_then (λ (x : VersionRow). lab_of_record t x.kept)) it.1
    ∙ ap (lab_of_record t) (same_int it.0.kept kept (and_parts (int_eq it.0.kept kept) (it.0.number == number) it.2).0) ∙ its
