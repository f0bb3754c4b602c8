-- The router of the table finds each place of the table.
use Rattle.std.proofs.Common.{◌≡◌, ℕ, List, [], ◌∷◌, ◌++◌, Bool, true, false, Option, Some, None, refl, sym, ap, subst, ◌∙◌, codes, append-nil, length, nat_lt, Result, Ok, Err}
use Rattle.std.specs.Prelude.{◌&&◌, ◌||◌, is_some, bytes_eq}
use Rattle.std.specs.List.{list_any, list_all}
use Rattle.std.proofs.lemmas.Bool.{false≢true}
use Rattle.std.proofs.lemmas.Slice.Eq.{bytes_eq-Decides}
use Rattle.matchit.specs.Rows.{param_token}
use Rattle.matchit.specs.Route.{Scan, scan, scan_start, parse_route}
use Rattle.matchit.specs.Router.{RouteOf, route_from}
use Rattle.matchit.specs.declared.error.InsertError.{InsertError}
use Rattle.matchit.specs.Seek.{first, has_slash}
use Rattle.matchit.proofs.OnLiterals.{matchit_on_literals}
use Rattle.lab_forms_texts.specs.Names.{is_key}
use Rattle.lab_wire.specs.Numbers.{ordinal_in}
use Rattle.lab_wire.specs.Paths.{segments}
use Rattle.lab_wire.specs.Routes.{admits, all_admitted}
use Rattle.lab_wire.specs.Places.{texts}
use Rattle.lab_wire.specs.Private.Router.{text_at}
use Rattle.lab_wire.specs.Router.{router_of_table}
use Rattle.lab_wire.proofs.TableLemmas.{true_first, true_last}
use Rattle.lab_wire.proofs.WalkLemmas.{by_word, goes_on, ends_first, ends_last, each_row}
use Rattle.lab_wire.proofs.PlaceLemmas.{joined, AreClean, Begins, whole, is_literal, literal_segments, Low, key_low, ordinal_low}

-- ---- what is found

-- a route, whose value is the number of its place
abbrev pub Found : Type 0
Found = RouteOf ℕ

abbrev pub IsOf : List ℕ → Option Found → Type 0
IsOf text None = ⊥
IsOf text (Some found) = text_at found.value ≡ text

abbrev is_of : List ℕ → Option Found → Bool
is_of text None = false
is_of text (Some found) = bytes_eq (text_at found.value) text

of_test : (text : List ℕ) (found : Option Found) → is_of text found ≡ true → IsOf text found
of_test text None is = absurd (false≢true is)
of_test text (Some found) is = (bytes_eq-Decides (text_at found.value) text).0 is

-- a place whose segments the text admits finds the place of the text
abbrev pub Finds : List ℕ → List ℕ → Type 0
Finds place text = all_admitted (segments text) (segments place) ≡ true → IsOf text (first router_of_table place)

literal_found : (text place : List ℕ) → Begins place → is_literal (segments text) ≡ true → bytes_eq (joined (segments text)) text ≡ true
    → is_of text (first router_of_table text) ≡ true → Finds place text
literal_found text place begins literal all finds is =
    let parts : segments text ≡ segments place = literal_segments (segments text) (segments place) literal is in
    let same : text ≡ place = sym ((bytes_eq-Decides (joined (segments text)) text).0 all) ∙ ap joined parts ∙ (whole place begins).0 in
    subst (λ p. IsOf text (first router_of_table p)) same (of_test text _ finds)

-- ---- places with parameters

-- the route of a text, with the number of its place
abbrev read_as : Result Scan InsertError → ℕ → Found
read_as (Ok read) number = route_from read number
read_as (Err fault) number = route_from scan_start number

abbrev route_as : List ℕ → ℕ → Found
route_as text number = read_as (parse_route text) number

abbrev form_text : List ℕ
form_text = codes "/forms/{form}/{version}"

abbrev record_text : List ℕ
record_text = codes "/records/{record}"

abbrev version_text : List ℕ
version_text = codes "/records/{record}/versions/{version}"

form_walk : (key version : List ℕ) → Low key → Low version → has_slash key ≡ false → has_slash version ≡ false
    → IsOf form_text (first router_of_table (joined (codes "forms" ∷ key ∷ version ∷ [])))
unfolding scan router_of_table
form_walk [] version low low_too clean clean_too = absurd low
form_walk (b ∷ w) [] low low_too clean clean_too = absurd low_too
form_walk (b ∷ w) (c ∷ x) low low_too clean clean_too =
    let found : Found = route_as form_text 11 in
    let walk : first router_of_table (codes "/forms/" ++ b ∷ w ++ 47 ∷ c ∷ x) ≡ Some found =
    by_word (codes "/forms/") router_of_table (b ∷ w ++ 47 ∷ c ∷ x) refl
    ∙ goes_on b w (c ∷ x) (param_token ∷ []) found None low clean ∙ ends_last c x found low_too clean_too in
    subst (IsOf form_text) (sym (ap (λ l. first router_of_table (codes "/forms/" ++ b ∷ w ++ 47 ∷ c ∷ l)) (append-nil x) ∙ walk)) refl

record_walk : (number : List ℕ) → Low number → has_slash number ≡ false
    → IsOf record_text (first router_of_table (joined (codes "records" ∷ number ∷ [])))
unfolding scan router_of_table
record_walk [] low clean = absurd low
record_walk (b ∷ w) low clean =
    let found : Found = route_as record_text 15 in
    let walk : first router_of_table (codes "/records/" ++ b ∷ w) ≡ Some found =
    by_word (codes "/records/") router_of_table (b ∷ w) refl
    ∙ ends_first b w (codes "versions/" ++ param_token ∷ []) (route_as version_text 16) found low clean in
    subst (IsOf record_text) (sym (ap (λ l. first router_of_table (codes "/records/" ++ b ∷ l)) (append-nil w) ∙ walk)) refl

version_walk : (number version : List ℕ) → Low number → Low version → has_slash number ≡ false → has_slash version ≡ false
    → IsOf version_text (first router_of_table (joined (codes "records" ∷ number ∷ codes "versions" ∷ version ∷ [])))
unfolding scan router_of_table
version_walk [] version low low_too clean clean_too = absurd low
version_walk (b ∷ w) [] low low_too clean clean_too = absurd low_too
version_walk (b ∷ w) (c ∷ x) low low_too clean clean_too =
    let found : Found = route_as version_text 16 in
    let walk : first router_of_table (codes "/records/" ++ (b ∷ w ++ (47 ∷ (codes "versions/" ++ (c ∷ x))))) ≡ Some found =
    by_word (codes "/records/") router_of_table (b ∷ w ++ (47 ∷ (codes "versions/" ++ (c ∷ x)))) refl
    ∙ goes_on b w (codes "versions/" ++ c ∷ x) (codes "versions/" ++ param_token ∷ []) found (Some (route_as record_text 15)) low clean
    ∙ by_word (codes "versions/") ((codes "versions/" ++ param_token ∷ [], found) ∷ []) (c ∷ x) refl
    ∙ ends_last c x found low_too clean_too in
    subst (IsOf version_text)
    (sym (ap (λ l. first router_of_table (codes "/records/" ++ (b ∷ w ++ (47 ∷ (codes "versions/" ++ (c ∷ l)))))) (append-nil x) ∙ walk)) refl

literal_part : (word part : List ℕ) → bytes_eq word part ≡ true → part ≡ word
literal_part word part is = sym ((bytes_eq-Decides word part).0 is)

form_parts : (place : List ℕ) (parts : List (List ℕ)) → (joined parts ≡ place) × AreClean parts
    → all_admitted (codes "forms" ∷ codes "{form}" ∷ codes "{version}" ∷ []) parts ≡ true
    → IsOf form_text (first router_of_table place)
unfolding admits
form_parts place [] cut is = absurd (false≢true is)
form_parts place (a ∷ []) cut is = absurd (false≢true (true_last (bytes_eq (codes "forms") a) _ is))
form_parts place (a ∷ b ∷ []) cut is = absurd (false≢true (true_last (is_key b) _ (true_last (bytes_eq (codes "forms") a) _ is)))
form_parts place (a ∷ b ∷ c ∷ d ∷ more) cut is =
    absurd (false≢true (true_last (is_some (ordinal_in c)) _ (true_last (is_key b) _ (true_last (bytes_eq (codes "forms") a) _ is))))
form_parts place (a ∷ b ∷ c ∷ []) cut is =
    let word = literal_part (codes "forms") a (true_first (bytes_eq (codes "forms") a) _ is) in
    let rest = true_last (bytes_eq (codes "forms") a) _ is in
    let low = key_low b (true_first (is_key b) _ rest) in
    let low_too = ordinal_low c (true_first (is_some (ordinal_in c)) _ (true_last (is_key b) _ rest)) in
    subst (λ p. IsOf form_text (first router_of_table p))
    (ap (λ word. joined (word ∷ b ∷ c ∷ [])) (sym word) ∙ cut.0) (form_walk b c low low_too cut.1.1.0 cut.1.1.1.0)

record_parts : (place : List ℕ) (parts : List (List ℕ)) → (joined parts ≡ place) × AreClean parts
    → all_admitted (codes "records" ∷ codes "{record}" ∷ []) parts ≡ true
    → IsOf record_text (first router_of_table place)
unfolding admits
record_parts place [] cut is = absurd (false≢true is)
record_parts place (a ∷ []) cut is = absurd (false≢true (true_last (bytes_eq (codes "records") a) _ is))
record_parts place (a ∷ b ∷ c ∷ more) cut is =
    absurd (false≢true (true_last (is_some (ordinal_in b)) _ (true_last (bytes_eq (codes "records") a) _ is)))
record_parts place (a ∷ b ∷ []) cut is =
    let word = literal_part (codes "records") a (true_first (bytes_eq (codes "records") a) _ is) in
    let low = ordinal_low b (true_first (is_some (ordinal_in b)) _ (true_last (bytes_eq (codes "records") a) _ is)) in
    subst (λ p. IsOf record_text (first router_of_table p))
    (ap (λ word. joined (word ∷ b ∷ [])) (sym word) ∙ cut.0) (record_walk b low cut.1.1.0)

version_parts : (place : List ℕ) (parts : List (List ℕ)) → (joined parts ≡ place) × AreClean parts
    → all_admitted (codes "records" ∷ codes "{record}" ∷ codes "versions" ∷ codes "{version}" ∷ []) parts ≡ true
    → IsOf version_text (first router_of_table place)
unfolding admits
version_parts place [] cut is = absurd (false≢true is)
version_parts place (a ∷ []) cut is = absurd (false≢true (true_last (bytes_eq (codes "records") a) _ is))
version_parts place (a ∷ b ∷ []) cut is =
    absurd (false≢true (true_last (is_some (ordinal_in b)) _ (true_last (bytes_eq (codes "records") a) _ is)))
version_parts place (a ∷ b ∷ c ∷ []) cut is =
    absurd (false≢true (true_last (bytes_eq (codes "versions") c) _ (true_last (is_some (ordinal_in b)) _ (true_last (bytes_eq (codes "records") a) _ is))))
version_parts place (a ∷ b ∷ c ∷ d ∷ e ∷ more) cut is =
    absurd (false≢true (true_last (is_some (ordinal_in d)) _ (true_last (bytes_eq (codes "versions") c) _
    (true_last (is_some (ordinal_in b)) _ (true_last (bytes_eq (codes "records") a) _ is)))))
version_parts place (a ∷ b ∷ c ∷ d ∷ []) cut is =
    let word = literal_part (codes "records") a (true_first (bytes_eq (codes "records") a) _ is) in
    let rest = true_last (bytes_eq (codes "records") a) _ is in
    let low = ordinal_low b (true_first (is_some (ordinal_in b)) _ rest) in
    let last = true_last (is_some (ordinal_in b)) _ rest in
    let word_too = literal_part (codes "versions") c (true_first (bytes_eq (codes "versions") c) _ last) in
    let low_too = ordinal_low d (true_first (is_some (ordinal_in d)) _ (true_last (bytes_eq (codes "versions") c) _ last)) in
    subst (λ p. IsOf version_text (first router_of_table p))
    (ap (λ word. joined (word ∷ b ∷ codes "versions" ∷ d ∷ [])) (sym word) ∙ ap (λ word. joined (a ∷ b ∷ word ∷ d ∷ [])) (sym word_too) ∙ cut.0)
    (version_walk b d low low_too cut.1.1.0 cut.1.1.1.1.0)

form_found : (place : List ℕ) → Begins place → Finds place form_text
unfolding segments
form_found place begins is = form_parts place (segments place) (whole place begins) is

record_found : (place : List ℕ) → Begins place → Finds place record_text
unfolding segments
record_found place begins is = record_parts place (segments place) (whole place begins) is

version_found : (place : List ℕ) → Begins place → Finds place version_text
unfolding segments
version_found place begins is = version_parts place (segments place) (whole place begins) is

-- ---- each place of the table

-- a text without parameters, which finds itself
abbrev stands : List ℕ → Bool
stands text = is_literal (segments text) && (bytes_eq (joined (segments text)) text && is_of text (first router_of_table text))

abbrev is_known : List ℕ → Bool
is_known text = stands text || (bytes_eq text form_text || (bytes_eq text record_text || bytes_eq text version_text))

texts_known : list_all is_known texts ≡ true
unfolding matchit_on_literals router_of_table segments
texts_known = refl

each_passes : (test : List ℕ → Bool) (some : List (List ℕ)) (text : List ℕ) → list_all test some ≡ true → list_any (bytes_eq text) some ≡ true
    → test text ≡ true
each_passes test [] text all within = absurd (false≢true within)
each_passes test (one ∷ more) text all within =
    by (bytes_eq text one) refl within (each_passes test more text (true_last (test one) (list_all test more) all))
  where
    by : (v : Bool) → bytes_eq text one ≡ v → (v || list_any (bytes_eq text) more) ≡ true → (list_any (bytes_eq text) more ≡ true → test text ≡ true)
        → test text ≡ true
    by true here is rest = ap test ((bytes_eq-Decides text one).0 here) ∙ true_first (test one) (list_all test more) all
    by false here is rest = rest is

same_finds : (place one text : List ℕ) → bytes_eq text one ≡ true → Finds place one → Finds place text
same_finds place one text is found = subst (Finds place) (sym ((bytes_eq-Decides text one).0 is)) found

by_kind : (place text : List ℕ) → Begins place → (s f r v : Bool) → stands text ≡ s → bytes_eq text form_text ≡ f → bytes_eq text record_text ≡ r
    → bytes_eq text version_text ≡ v → (s || (f || (r || v))) ≡ true → Finds place text
by_kind place text begins true f r v is form number version either =
    let rest = true_last (is_literal (segments text)) _ is in
    literal_found text place begins (true_first (is_literal (segments text)) _ is) (true_first (bytes_eq (joined (segments text)) text) _ rest)
    (true_last (bytes_eq (joined (segments text)) text) _ rest)
by_kind place text begins false true r v is form number version either = same_finds place form_text text form (form_found place begins)
by_kind place text begins false false true v is form number version either = same_finds place record_text text number (record_found place begins)
by_kind place text begins false false false true is form number version either = same_finds place version_text text version (version_found place begins)
by_kind place text begins false false false false is form number version either = absurd (false≢true either)

pub finds : (place text : List ℕ) → Begins place → list_any (bytes_eq text) texts ≡ true → Finds place text
finds place text begins within =
    by_kind place text begins (stands text) (bytes_eq text form_text) (bytes_eq text record_text) (bytes_eq text version_text) refl refl refl refl
    (each_passes is_known texts text texts_known within)

-- ---- and no other

-- the number of a route is of a place in the table
abbrev pub is_of_table : Found → Bool
is_of_table found = nat_lt found.value (length texts) && list_any (bytes_eq (text_at found.value)) texts

pub router_is_of_table : each_row is_of_table router_of_table ≡ true
unfolding scan router_of_table
router_is_of_table = refl
