-- The route by a method to a place is what the place of the table that admits it has for the method.
use Rattle.std.proofs.Common.{◌≡◌, ◌<◌, ℕ, arith, List, [], ◌∷◌, Bool, true, false, cond, Option, Some, None, Result, Err, refl, sym, ap, subst, ◌∙◌, length, nat_lt}
use Rattle.std.specs.Prelude.{◌&&◌, ◌||◌, is_some, bytes_eq, find, map, option_map}
use Rattle.std.specs.List.{list_any, list_all}
use Rattle.std.proofs.lemmas.Bool.{false≢true}
use Rattle.std.proofs.lemmas.Grind.{common_steps}
use Rattle.std.proofs.lemmas.Slice.Eq.{bytes_eq-Decides}
use Rattle.matchit.specs.Seek.{first}
use Rattle.lab_wire.specs.declared.route_refusals.Allowed.{Allowed}
use Rattle.lab_wire.specs.declared.route_refusals.Allowed.TheVariants.{Get as GetAlone, Post as PostAlone, GetOrPost}
use Rattle.lab_wire.specs.declared.route_refusals.RouteRefusal.{RouteRefusal}
use Rattle.lab_wire.specs.declared.route_refusals.RouteRefusal.TheVariants.{NoRoute}
use Rattle.lab_wire.specs.declared.routes.Route.{Route}
use Rattle.lab_wire.specs.Paths.{segments}
use Rattle.lab_wire.specs.Routes.{Row, routes, get_method, post_method, all_admitted, is_row_to, is_place, is_row, route_row, allowed, route_or_allowed, route_of}
use Rattle.lab_wire.specs.Private.Places.{place_at, is_at, is_to, place_to, allowed_by, route_or_methods}
use Rattle.lab_wire.specs.Places.{texts}
use Rattle.lab_wire.proofs.PlaceWords.{route_in}
use Rattle.lab_wire.specs.Private.Router.{text_at}
use Rattle.lab_wire.specs.Router.{router_of_table}
use Rattle.lab_wire.proofs.TableLemmas.{true_first, true_last}
use Rattle.lab_wire.proofs.WalkLemmas.{seek_of, OfFound, of_each}
use Rattle.lab_wire.proofs.PlaceLemmas.{Begins}
use Rattle.lab_wire.proofs.RouterLaws.{Found, IsOf, is_of_table, finds, router_is_of_table}

-- whether the place is one of a text's
abbrev is_of_text : List ℕ → List ℕ → Bool
is_of_text place text = all_admitted (segments text) (segments place)

same_bytes : (text : List ℕ) → bytes_eq text text ≡ true
same_bytes text = (bytes_eq-Decides text text).1 refl

or_first : (a b : Bool) → a ≡ true → (a || b) ≡ true
or_first true b is = refl
or_first false b is = absurd (false≢true is)

or_last : (a b : Bool) → b ≡ true → (a || b) ≡ true
or_last true b is = refl
or_last false b is = is

-- ---- the place of the table that admits a place

none_to : (place : List ℕ) (some : List (List ℕ)) → ((text : List ℕ) → list_any (bytes_eq text) some ≡ true → is_of_text place text ≡ true → ⊥)
    → find (is_to place) (map place_at some) ≡ None
none_to place [] none = refl
none_to place (text ∷ more) none = by (is_of_text place text) refl (none_to place more)
  where
    rest : (t : List ℕ) → list_any (bytes_eq t) more ≡ true → is_of_text place t ≡ true → ⊥
    rest t within is = none t (or_last (bytes_eq t text) _ within) is

    by : (v : Bool) → is_of_text place text ≡ v
        → (((t : List ℕ) → list_any (bytes_eq t) more ≡ true → is_of_text place t ≡ true → ⊥) → find (is_to place) (map place_at more) ≡ None)
        → cond v (Some (place_at text)) (find (is_to place) (map place_at more)) ≡ None
    by true is after = absurd (none text (or_first (bytes_eq text text) _ (same_bytes text)) is)
    by false is after = after rest

one_to : (place one : List ℕ) (some : List (List ℕ)) → ((text : List ℕ) → list_any (bytes_eq text) some ≡ true → is_of_text place text ≡ true → one ≡ text)
    → list_any (bytes_eq one) some ≡ true → is_of_text place one ≡ true → find (is_to place) (map place_at some) ≡ Some (place_at one)
one_to place one [] alone within is = absurd (false≢true within)
one_to place one (text ∷ more) alone within is = by (is_of_text place text) refl (λ left there. one_to place one more left there is)
  where
    rest : (t : List ℕ) → list_any (bytes_eq t) more ≡ true → is_of_text place t ≡ true → one ≡ t
    rest t there of = alone t (or_last (bytes_eq t text) _ there) of

    later : (v : Bool) → bytes_eq one text ≡ v → (v || list_any (bytes_eq one) more) ≡ true → is_of_text place text ≡ false
        → list_any (bytes_eq one) more ≡ true
    later true here there not =
        absurd (false≢true (sym not ∙ ap (is_of_text place) (sym ((bytes_eq-Decides one text).0 here)) ∙ is))
    later false here there not = there

    by : (v : Bool) → is_of_text place text ≡ v
        → (((t : List ℕ) → list_any (bytes_eq t) more ≡ true → is_of_text place t ≡ true → one ≡ t) → list_any (bytes_eq one) more ≡ true
        → find (is_to place) (map place_at more) ≡ Some (place_at one))
        → cond v (Some (place_at text)) (find (is_to place) (map place_at more)) ≡ Some (place_at one)
    by true of after = ap (λ t. Some (place_at t)) (sym (alone text (or_first (bytes_eq text text) _ (same_bytes text)) of))
    by false not after = after rest (later (bytes_eq one text) refl within not)

-- ---- what the router finds

module _ (place : List ℕ) (begins : Begins place) where
  -- where the router finds nothing, no place admits it
  pub found_nowhere : first router_of_table place ≡ None → None ≡ place_to place
  unfolding place_to
  found_nowhere nothing =
      sym (none_to place texts (λ text within is. subst (IsOf text) nothing (finds place text begins within is)))

  of_table : (found : Found) → first router_of_table place ≡ Some found → is_of_table found ≡ true
  of_table found is =
      subst (OfFound (λ f. is_of_table f ≡ true)) is
      (seek_of (λ f. is_of_table f ≡ true) 0 router_of_table place (of_each is_of_table router_of_table router_is_of_table))

  pub number_within : (found : Found) → first router_of_table place ≡ Some found → nat_lt found.value (length texts) ≡ true
  number_within found is = true_first (nat_lt found.value (length texts)) _ (of_table found is)

  text_within : (found : Found) → first router_of_table place ≡ Some found → list_any (bytes_eq (text_at found.value)) texts ≡ true
  text_within found is = true_last (nat_lt found.value (length texts)) _ (of_table found is)

  -- no other place than the one that it finds
  no_other : (found : Found) → first router_of_table place ≡ Some found → (text : List ℕ) → list_any (bytes_eq text) texts ≡ true
      → is_of_text place text ≡ true → text_at found.value ≡ text
  no_other found is text within of = subst (IsOf text) is (finds place text begins within of)

  pub found_there : (found : Found) → first router_of_table place ≡ Some found → is_of_text place (text_at found.value) ≡ true
      → Some (place_at (text_at found.value)) ≡ place_to place
  unfolding place_to
  found_there found is of = sym (one_to place (text_at found.value) texts (no_other found is) (text_within found is) of)

  pub found_elsewhere : (found : Found) → first router_of_table place ≡ Some found → is_of_text place (text_at found.value) ≡ false
      → None ≡ place_to place
  unfolding place_to
  found_elsewhere found is not =
      sym (none_to place texts (λ text within of.
      false≢true (sym not ∙ ap (is_of_text place) (no_other found is text within of) ∙ of)))

-- ---- rows whose places are of these texts

-- two tests that are true together
both : (a b : Bool) → (a ≡ true → b ≡ true) → (b ≡ true → a ≡ true) → a ≡ b
both true b here there = sym (here refl)
both false true here there = there refl
both false false here there = refl

module _ (some : List (List ℕ)) where
  -- each row's place is one of the some, and each row is by one of the two methods
  rows_within : (rows : List Row) → list_all (λ row. list_any (bytes_eq row.place) some) rows ≡ true → (place : List ℕ)
      → ((text : List ℕ) → list_any (bytes_eq text) some ≡ true → is_of_text place text ≡ true → ⊥) → list_any (is_row_to place) rows ≡ false
  rows_within [] within place none = refl
  rows_within (row ∷ rows) within place none =
      by (is_row_to place row) refl (rows_within rows (true_last (list_any (bytes_eq row.place) some) _ within) place none)
    where
      by : (v : Bool) → is_row_to place row ≡ v → list_any (is_row_to place) rows ≡ false → (v || list_any (is_row_to place) rows) ≡ false
      by true is rest = absurd (none row.place (true_first _ _ within) is)
      by false is rest = rest

  -- a place of one text is to the rows that have it
  row_is : (place one : List ℕ) → is_of_text place one ≡ true
      → ((text : List ℕ) → list_any (bytes_eq text) some ≡ true → is_of_text place text ≡ true → one ≡ text)
      → (row : Row) → list_any (bytes_eq row.place) some ≡ true → is_row_to place row ≡ bytes_eq row.place one
  row_is place one of alone row within =
      both (is_row_to place row) (bytes_eq row.place one)
      (λ is. (bytes_eq-Decides row.place one).1 (sym (alone row.place within is)))
      (λ is. ap (is_of_text place) ((bytes_eq-Decides row.place one).0 is) ∙ of)

  row_found : (place one method : List ℕ) (rows : List Row) → list_all (λ row. list_any (bytes_eq row.place) some) rows ≡ true
      → ((row : Row) → list_any (bytes_eq row.place) some ≡ true → is_row_to place row ≡ bytes_eq row.place one)
      → find (is_row method place) rows ≡ find (is_at method one) rows
  row_found place one method [] within same = refl
  row_found place one method (row ∷ rows) within same =
      let here = same row (true_first _ _ within) in
      let more = row_found place one method rows (true_last (list_any (bytes_eq row.place) some) _ within) same in
      ap (λ v. cond (bytes_eq row.method method && v) (Some row) (find (is_row method place) rows)) here
      ∙ ap (λ found. cond (is_at method one row) (Some row) found) more

  any_found : (place one : List ℕ) (rows : List Row) → list_all (λ row. list_any (bytes_eq row.place) some) rows ≡ true
      → ((row : Row) → list_any (bytes_eq row.place) some ≡ true → is_row_to place row ≡ bytes_eq row.place one)
      → list_any (is_row_to place) rows ≡ list_any (λ row. bytes_eq row.place one) rows
  any_found place one [] within same = refl
  any_found place one (row ∷ rows) within same =
      let here = same row (true_first _ _ within) in
      let more = any_found place one rows (true_last (list_any (bytes_eq row.place) some) _ within) same in
      ap (λ v. v || list_any (is_row_to place) rows) here ∙ ap (λ v. bytes_eq row.place one || v) more

-- each text is of a row
has_rows : (rows : List Row) (some : List (List ℕ)) → list_all (λ text. list_any (λ row. bytes_eq row.place text) rows) some ≡ true
    → (one : List ℕ) → list_any (bytes_eq one) some ≡ true → list_any (λ row. bytes_eq row.place one) rows ≡ true
has_rows rows [] all one within = absurd (false≢true within)
has_rows rows (text ∷ more) all one within =
    by (bytes_eq one text) refl within (has_rows rows more (true_last (list_any (λ row. bytes_eq row.place text) rows) _ all) one)
  where
    by : (v : Bool) → bytes_eq one text ≡ v → (v || list_any (bytes_eq one) more) ≡ true
        → (list_any (bytes_eq one) more ≡ true → list_any (λ row. bytes_eq row.place one) rows ≡ true) → list_any (λ row. bytes_eq row.place one) rows ≡ true
    by true is there rest = subst (λ t. list_any (λ row. bytes_eq row.place t) rows ≡ true) (sym ((bytes_eq-Decides one text).0 is)) (true_first _ _ all)
    by false is there rest = rest there

-- ---- rows of the two methods

passed : (method one : List ℕ) (row : Row) (rows : List Row) → bytes_eq row.method method ≡ false → find (is_at method one) rows ≡ None
    → find (is_at method one) (row ∷ rows) ≡ None
passed method one row rows is more =
    ap (λ v. cond (v && bytes_eq row.place one) (Some row) (find (is_at method one) rows)) is ∙ more

another_row : (method one : List ℕ) (row : Row) (rows : List Row) (g p : Bool) → bytes_eq row.method get_method ≡ g → bytes_eq row.method post_method ≡ p
    → (g || p) ≡ true → bytes_eq get_method method ≡ false → bytes_eq post_method method ≡ false → find (is_at method one) rows ≡ None
    → find (is_at method one) (row ∷ rows) ≡ None
another_row method one row rows true p is is_too either no_get no_post more =
    passed method one row rows (ap (λ m. bytes_eq m method) ((bytes_eq-Decides row.method get_method).0 is) ∙ no_get) more
another_row method one row rows false true is is_too either no_get no_post more =
    passed method one row rows (ap (λ m. bytes_eq m method) ((bytes_eq-Decides row.method post_method).0 is_too) ∙ no_post) more
another_row method one row rows false false is is_too either no_get no_post more = absurd (false≢true either)

-- no row is by another method
no_row : (method one : List ℕ) (rows : List Row) → list_all (λ row. bytes_eq row.method get_method || bytes_eq row.method post_method) rows ≡ true
    → bytes_eq get_method method ≡ false → bytes_eq post_method method ≡ false → find (is_at method one) rows ≡ None
no_row method one [] all no_get no_post = refl
no_row method one (row ∷ rows) all no_get no_post =
    another_row method one row rows (bytes_eq row.method get_method) (bytes_eq row.method post_method) refl refl (true_first _ _ all) no_get no_post
    (no_row method one rows (true_last (bytes_eq row.method get_method || bytes_eq row.method post_method) _ all) no_get no_post)

-- ---- together

-- a route by a method, over these rows
abbrev allowed_over : List Row → List ℕ → Allowed
allowed_over rows place =
    cond (is_some (find (is_row get_method place) rows)) (cond (is_some (find (is_row post_method place) rows)) GetOrPost GetAlone) PostAlone

abbrev route_over : List Row → List ℕ → List ℕ → Result Route RouteRefusal
route_over rows method place =
    cond (list_any (is_row_to place) rows) (route_or_allowed (find (is_row method place) rows) (allowed_over rows place)) (Err NoRoute)

-- what is asked by a method at a text
abbrev at_over : List Row → List ℕ → List ℕ → Option Route
at_over rows method one = option_map (λ row. row.route) (find (is_at method one) rows)

abbrev asked_over : List Row → List ℕ → List ℕ → Result Route RouteRefusal
asked_over rows method one =
    route_or_methods (cond (bytes_eq get_method method) (at_over rows get_method one) (cond (bytes_eq post_method method) (at_over rows post_method one) None))
    (allowed_by (at_over rows get_method one) (at_over rows post_method one))

by_rows : (found : Option Row) (methods : Allowed) → route_or_allowed found methods ≡ route_or_methods (option_map (λ row. row.route) found) methods
by_rows None methods = refl
by_rows (Some row) methods = refl

methods_are : (read posted : Option Row)
    → cond (is_some read) (cond (is_some posted) GetOrPost GetAlone) PostAlone
    ≡ allowed_by (option_map (λ row. row.route) read) (option_map (λ row. row.route) posted)
methods_are (Some read) (Some posted) = refl
methods_are (Some read) None = refl
methods_are None (Some posted) = refl
methods_are None None = refl

asked_is : (rows : List Row) → list_all (λ row. bytes_eq row.method get_method || bytes_eq row.method post_method) rows ≡ true
    → (method one : List ℕ) (g p : Bool) → bytes_eq get_method method ≡ g → bytes_eq post_method method ≡ p
    → at_over rows method one ≡ cond g (at_over rows get_method one) (cond p (at_over rows post_method one) None)
asked_is rows two method one true p is is_too = ap (λ m. at_over rows m one) (sym ((bytes_eq-Decides get_method method).0 is))
asked_is rows two method one false true is is_too = ap (λ m. at_over rows m one) (sym ((bytes_eq-Decides post_method method).0 is_too))
asked_is rows two method one false false is is_too = ap (option_map (λ row. row.route)) (no_row method one rows two is is_too)

route_there : (rows : List Row) (some : List (List ℕ)) → list_all (λ row. list_any (bytes_eq row.place) some) rows ≡ true
    → list_all (λ text. list_any (λ row. bytes_eq row.place text) rows) some ≡ true
    → list_all (λ row. bytes_eq row.method get_method || bytes_eq row.method post_method) rows ≡ true
    → (method place one : List ℕ) → list_any (bytes_eq one) some ≡ true → is_of_text place one ≡ true
    → ((text : List ℕ) → list_any (bytes_eq text) some ≡ true → is_of_text place text ≡ true → one ≡ text)
    → route_over rows method place ≡ asked_over rows method one
route_there rows some within all two method place one here of alone =
    let same = row_is some place one of alone in
    let is : list_any (is_row_to place) rows ≡ true = any_found some place one rows within same ∙ has_rows rows some all one here in
    let found : (m : List ℕ) → find (is_row m place) rows ≡ find (is_at m one) rows = λ m. row_found some place one m rows within same in
    ap (λ v. cond v (route_or_allowed (find (is_row method place) rows) (allowed_over rows place)) (Err NoRoute)) is
    ∙ ap (λ row. route_or_allowed row (allowed_over rows place)) (found method)
    ∙ ap (λ row. route_or_allowed (find (is_at method one) rows) (cond (is_some row) (cond (is_some (find (is_row post_method place) rows)) GetOrPost GetAlone) PostAlone))
    (found get_method)
    ∙ ap (λ row. route_or_allowed (find (is_at method one) rows) (cond (is_some (find (is_at get_method one) rows)) (cond (is_some row) GetOrPost GetAlone) PostAlone))
    (found post_method)
    ∙ ap (route_or_allowed (find (is_at method one) rows)) (methods_are (find (is_at get_method one) rows) (find (is_at post_method one) rows))
    ∙ by_rows (find (is_at method one) rows) (allowed_by (at_over rows get_method one) (at_over rows post_method one))
    ∙ ap (λ asked. route_or_methods asked (allowed_by (at_over rows get_method one) (at_over rows post_method one)))
    (asked_is rows two method one (bytes_eq get_method method) (bytes_eq post_method method) refl refl)

at_table : (method place one : List ℕ) → list_any (bytes_eq one) texts ≡ true → is_of_text place one ≡ true
    → ((text : List ℕ) → list_any (bytes_eq text) texts ≡ true → is_of_text place text ≡ true → one ≡ text)
    → route_of method place ≡ route_in method (Some (place_at one))
unfolding route_of is_place route_row
at_table method place one here of alone = route_there routes texts refl refl refl method place one here of alone

off_table : (method place : List ℕ) → ((text : List ℕ) → list_any (bytes_eq text) texts ≡ true → is_of_text place text ≡ true → ⊥)
    → route_of method place ≡ Err NoRoute
unfolding route_of is_place
off_table method place none =
    ap (λ v. cond v (route_or_allowed (route_row method place) (allowed place)) (Err NoRoute)) (rows_within texts routes refl place none)

module _ (method place : List ℕ) (begins : Begins place) where
  route_by : (found : Found) (v : Bool) → first router_of_table place ≡ Some found → is_of_text place (text_at found.value) ≡ v
      → route_of method place ≡ route_in method (place_to place)
  route_by found true is of =
      at_table method place (text_at found.value) (text_within place begins found is) of (no_other place begins found is)
      ∙ ap (route_in method) (found_there place begins found is of)
  route_by found false is not =
      off_table method place (λ text within of. false≢true (sym not ∙ ap (is_of_text place) (no_other place begins found is text within of) ∙ of))
      ∙ ap (route_in method) (found_elsewhere place begins found is not)

  by_router : (found : Option Found) → first router_of_table place ≡ found → route_of method place ≡ route_in method (place_to place)
  by_router None is =
      off_table method place (λ text within of. subst (IsOf text) is (finds place text begins within of))
      ∙ ap (route_in method) (found_nowhere place begins is)
  by_router (Some found) is = route_by found _ is refl

  pub route_is : route_of method place ≡ route_in method (place_to place)
  route_is = by_router _ refl

-- ---- by the number that the router finds

abbrev number_found : Option Found → Option ℕ
number_found found = option_map (λ f. f.value) found

module _ (place : List ℕ) (begins : Begins place) where
  by_number : (number : ℕ) (found : Option Found) → first router_of_table place ≡ found → Some number ≡ number_found found
      → (f : Found) × (first router_of_table place ≡ Some f) × (f.value ≡ number)
  by_number number None is same = absurd (cc)
  by_number number (Some f) is same = (f, is, cc)

  pub numbered_within : (number : ℕ) → Some number ≡ number_found (first router_of_table place) → number < length texts
  numbered_within number same =
      let f = by_number number _ refl same in
      let within : f.0.value < length texts = grind (arith, common_steps, number_within place begins f.0 f.1) in
      subst (λ n. n < length texts) f.2 within

  pub numbered_there : (number : ℕ) → Some number ≡ number_found (first router_of_table place) → is_of_text place (text_at number) ≡ true
      → Some (place_at (text_at number)) ≡ place_to place
  numbered_there number same of =
      let f = by_number number _ refl same in
      let there : is_of_text place (text_at f.0.value) ≡ true = ap (λ n. is_of_text place (text_at n)) f.2 ∙ of in
      ap (λ n. Some (place_at (text_at n))) (sym f.2) ∙ found_there place begins f.0 f.1 there

  pub numbered_elsewhere : (number : ℕ) → Some number ≡ number_found (first router_of_table place) → is_of_text place (text_at number) ≡ false
      → None ≡ place_to place
  numbered_elsewhere number same not =
      let f = by_number number _ refl same in
      found_elsewhere place begins f.0 f.1 (ap (λ n. is_of_text place (text_at n)) f.2 ∙ not)

  nothing : (found : Option Found) → None ≡ number_found found → found ≡ None
  nothing None is = refl
  nothing (Some f) is = absurd (cc)

  pub numbered_nowhere : None ≡ number_found (first router_of_table place) → None ≡ place_to place
  numbered_nowhere is = found_nowhere place begins (nothing (first router_of_table place) is)
