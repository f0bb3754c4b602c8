-- Where the tables are well kept, the sessions closed by the id of their person are those whose person has the code.
use Rattle.std.proofs.Common.{◌≡◌, inl, inr, ℕ, ℤ, ◌<ℤ◌, arith, Bool, true, false, not, ◌&&◌, ◌==◌, cond, List, [], ◌∷◌, find, Option, Some, None, option_map, unwrap_or, refl, sym, ap, ap₂, ◌∙◌, int_eq, bytes_eq}
use Rattle.std.specs.List.{AllByRecursion}
use Rattle.std.proofs.lemmas.Bool.{and_parts, and_from}
use Rattle.std.proofs.lemmas.Int.{ints}
use Rattle.sqlite_rules.specs.Lists.{Has}
use Rattle.sqlite_rules.proofs.ListLemmas.{all_has, has_found}
use Rattle.sqlite_keyed.specs.Keyed.{IsKeyedBy, get_by}
use Rattle.sqlite_keyed.specs.Lists.{update_where}
use Rattle.sqlite_keyed.specs.Rules.{AreApart}
use Rattle.sqlite_keyed.proofs.ListLemmas.{all_weaker, all_from_test}
use Rattle.sqlite_keyed.proofs.KeyedLemmas.{key-get_by, same_int}
use Rattle.lab_people_access.specs.declared.sessions.Closing.{Closing}
use Rattle.lab_people_access.specs.declared.sessions.Closing.TheVariants.{Nothing, All, Others}
use Rattle.lab_store_tables.specs.Rows.{PersonRow, SessionRow, Tables, person_id}
use Rattle.lab_store_tables.specs.Meaning.{code_of}
use Rattle.lab_store_tables.specs.Changes.{is_person, person_named, is_to_close, close_sessions}
use Rattle.lab_store_tables.specs.WellKept.{is_same, is_session_within, same_person, IsWellKept}
use Rattle.lab_store_tables.proofs.Bridges.{apart_from_test}
use Rattle.lab_store_read.proofs.Lists.{int_alike}
use Rattle.lab_store_write.specs.Closings.{is_meant, closed_row, ClosesOf}
use Rattle.lab_store_tables.proofs.Comparing.{text_is, text_alike}

bool_same : (a b : Bool) → (a ≡ true → b ≡ true) → (b ≡ true → a ≡ true) → a ≡ b
bool_same true b f g = sym (f refl)
bool_same false true f g = g refl
bool_same false false f g = refl

-- ---- rows with keys of their own

apart_if : (a b : ℤ) → a <ℤ b → int_eq a b ≡ false
apart_if a b less = grind (arith, ints)

-- a row that is found is found by its key
by_its_key : {X : Type 0} (key : X → ℤ) (p : X → Bool) (xs : List X) (y : X) → IsKeyedBy key xs → find p xs ≡ Some y → get_by key xs (key y) ≡ Some y
by_its_key key p [] y up found = absurd cc
by_its_key {X} key p (x ∷ xs) y up found = go (p x) (by_its_key key p xs y up.1) found
  where
    go : (b : Bool) → (find p xs ≡ Some y → get_by key xs (key y) ≡ Some y) → cond b (Some x) (find p xs) ≡ Some y → cond (int_eq (key x) (key y)) (Some x) (get_by key xs (key y)) ≡ Some y
    go true later e = let same : x ≡ y = cc in ap (λ (b : Bool). cond b (Some x) (get_by key xs (key y))) (int_alike (key x) (key y) (ap key same)) ∙ ap Some same
    go false later e =
        let low = all_has (λ (z : X). int_eq (key x) (key z) ≡ false) xs y (all_weaker _ (λ (z : X). int_eq (key x) (key z) ≡ false) (λ z less. apart_if (key x) (key z) less) xs up.0) (has_found p xs y e).0 in
        ap (λ (b : Bool). cond b (Some x) (get_by key xs (key y))) low ∙ later e

-- of the rows that pass, where no two that pass are apart, there is one
only_one : {X : Type 0} (clash : X → X → Bool) (r : X → Bool) → ((a b : X) → r a ≡ true → r b ≡ true → clash a b ≡ true) → (xs : List X) (p q : X) → AreApart clash xs → find r xs ≡ Some p → Has xs q → r q ≡ true → q ≡ p
only_one clash r both [] p q apart found has passes = absurd has
only_one clash r both (x ∷ xs) p q apart found has passes = go (r x) refl (λ f later. only_one clash r both xs p q apart.1 f later passes) found has
  where
    go : (b : Bool) → r x ≡ b → (find r xs ≡ Some p → Has xs q → q ≡ p) → cond b (Some x) (find r xs) ≡ Some p → Has (x ∷ xs) q → q ≡ p
    go true e more f (inl same) = let here : x ≡ p = cc in same ∙ here
    go true e more f (inr later) = absurd (let no = all_has (λ y. clash x y ≡ false) xs q apart.0 later in let yes = both x q e passes in cc)
    go false e more f (inl same) = absurd (let yes = ap r (sym same) ∙ passes in cc)
    go false e more f (inr later) = more f later

-- ---- whose session it is

module _ (t : Tables) (up : IsKeyedBy person_id t.persons) (apart : AreApart same_person t.persons) (lab : ℤ) (code : List ℕ) (id : ℤ) (named : person_named t lab code ≡ Some id) where
  -- the row that the code names
  named_row : (o : Option PersonRow) → find (is_person lab code) t.persons ≡ o → option_map person_id o ≡ Some id → (p : PersonRow) × (find (is_person lab code) t.persons ≡ Some p) × (p.id ≡ id)
  named_row None e h = absurd cc
  named_row (Some p) e h = let same : p.id ≡ id = cc in (p, e, same)

  both_are : (a b : PersonRow) → is_person lab code a ≡ true → is_person lab code b ≡ true → same_person a b ≡ true
  both_are a b h k =
      let one = and_parts (int_eq a.lab lab) (bytes_eq a.code code) h in
      let two = and_parts (int_eq b.lab lab) (bytes_eq b.code code) k in
      and_from (int_eq a.lab b.lab) (bytes_eq a.code b.code) (int_alike a.lab b.lab (same_int a.lab lab one.0 ∙ sym (same_int b.lab lab two.0)))
      (text_alike a.code b.code (text_is a.code code one.1 ∙ sym (text_is b.code code two.1)))

  alike : (x : SessionRow) → is_session_within t x ≡ true → int_eq x.person id ≡ (int_eq x.lab lab && bytes_eq (code_of t x.person) code)
  alike x within = go (get_by person_id t.persons x.person) refl within
    where
      it : (p : PersonRow) × (find (is_person lab code) t.persons ≡ Some p) × (p.id ≡ id)
      it = named_row (find (is_person lab code) t.persons) refl named

      go : (o : Option PersonRow) → get_by person_id t.persons x.person ≡ o → is_same (option_map (λ (one : PersonRow). one.lab) o) (Some x.lab) ≡ true
          → int_eq x.person id ≡ (int_eq x.lab lab && bytes_eq (unwrap_or (option_map (λ (one : PersonRow). one.code) o) []) code)
      go None e h = absurd cc
      go (Some q) e h =
          let owner : q.lab ≡ x.lab = same_int q.lab x.lab h in
          let key : q.id ≡ x.person = key-get_by person_id t.persons x.person q e in
          let is = (has_found (is_person lab code) t.persons it.0 it.1).1 in
          let parts = and_parts (int_eq it.0.lab lab) (bytes_eq it.0.code code) is in
          bool_same (int_eq x.person id) (int_eq x.lab lab && bytes_eq q.code code)
          (λ same.
          let here : get_by person_id t.persons x.person ≡ Some it.0 = ap (get_by person_id t.persons) (same_int x.person id same ∙ sym it.2) ∙ by_its_key person_id (is_person lab code) t.persons it.0 up it.1 in
          let one : q ≡ it.0 = let both = sym e ∙ here in cc in
          and_from (int_eq x.lab lab) (bytes_eq q.code code) (int_alike x.lab lab (sym owner ∙ ap (λ (p : PersonRow). p.lab) one ∙ same_int it.0.lab lab parts.0)) (text_alike q.code code (ap (λ (p : PersonRow). p.code) one ∙ text_is it.0.code code parts.1)))
          (λ passes.
          let two = and_parts (int_eq x.lab lab) (bytes_eq q.code code) passes in
          let mine : is_person lab code q ≡ true = and_from (int_eq q.lab lab) (bytes_eq q.code code) (int_alike q.lab lab (owner ∙ same_int x.lab lab two.0)) two.1 in
          let one : q ≡ it.0 = only_one same_person (is_person lab code) both_are t.persons it.0 q apart it.1 (has_found (λ (y : PersonRow). int_eq y.id x.person) t.persons q e).0 mine in
          int_alike x.person id (sym key ∙ ap person_id one ∙ it.2))

  no_matter : (a b : Bool) → (a && false) ≡ (b && false)
  no_matter true true = refl
  no_matter true false = refl
  no_matter false true = refl
  no_matter false false = refl

  with_true : (a : Bool) → (a && true) ≡ a
  with_true true = refl
  with_true false = refl

  moved : (a b c : Bool) → (a && b && c) ≡ (a && (b && c))
  moved true b c = refl
  moved false b c = refl

  told_alike : (closing : Closing) (x : SessionRow) → is_session_within t x ≡ true → (int_eq x.person id && is_meant closing x) ≡ is_to_close t lab code closing x
  told_alike Nothing x within = no_matter (int_eq x.person id) (int_eq x.lab lab)
  told_alike All x within = with_true (int_eq x.person id) ∙ alike x within
  told_alike (Others kept) x within = ap (λ (b : Bool). b && not (x.number == kept)) (alike x within) ∙ moved (int_eq x.lab lab) (bytes_eq (code_of t x.person) code) (not (x.number == kept))

update_alike : (p q : SessionRow → Bool) (xs : List SessionRow) → AllByRecursion (λ (x : SessionRow). p x ≡ q x) xs → update_where p closed_row xs ≡ update_where q closed_row xs
update_alike p q [] all = refl
update_alike p q (x ∷ xs) all = ap₂ ◌∷◌ (ap (λ (b : Bool). cond b (closed_row x) x) all.0) (update_alike p q xs all.1)

pub closed_alike : (t new : Tables) → IsKeyedBy person_id t.persons → AreApart same_person t.persons → AllByRecursion (λ (x : SessionRow). is_session_within t x ≡ true) t.sessions
    → (lab : ℤ) (code : List ℕ) (closing : Closing) → ClosesOf lab code closing t new → new ≡ close_sessions lab code closing t
closed_alike t new up apart within lab code closing it =
    it.made ∙ ap (λ (l : List SessionRow). record t { sessions = l }) (update_alike (λ (x : SessionRow). int_eq x.person it.person && is_meant closing x) (is_to_close t lab code closing) t.sessions
    (all_weaker (λ (x : SessionRow). is_session_within t x ≡ true) _ (λ x here. told_alike t up apart lab code it.person it.named closing x here) t.sessions within))

-- ---- where the tables are well kept

left : (a b : Bool) → (a && b) ≡ true → a ≡ true
left a b h = (and_parts a b h).0

right : (a b : Bool) → (a && b) ≡ true → b ≡ true
right a b h = (and_parts a b h).1

two : (a b c : Bool) → ((a && b) && c) ≡ true → a ≡ true
two a b c h = left a b (left (a && b) c h)

four : (a b c d e : Bool) → ((((a && b) && c) && d) && e) ≡ true → a ≡ true
four a b c d e h = two a b c (two ((a && b) && c) d e h)

pub closes_as_said : (t new : Tables) → IsKeyedBy person_id t.persons → IsWellKept t → (lab : ℤ) (code : List ℕ) (closing : Closing) → ClosesOf lab code closing t new → new ≡ close_sessions lab code closing t
closes_as_said t new up kept = closed_alike t new up
    (apart_from_test same_person t.persons (right _ _ (left _ _ (four _ _ _ _ _ (four _ _ _ _ _ (four _ _ _ _ _ kept.rows.keys))))))
    (all_from_test (is_session_within t) t.sessions (right _ _ (left _ _ (four _ _ _ _ _ kept.rows.labs_apart))))
