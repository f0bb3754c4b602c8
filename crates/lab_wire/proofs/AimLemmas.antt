-- What a place gives by the table's text: something exactly where the text admits it, and then what its route asks.
use Rattle.std.proofs.Common.{◌≡◌, ℕ, List, [], ◌∷◌, suc, Bool, true, false, cond, Option, Some, None, Ok, Err, refl, sym, ap, subst, ◌∙◌, codes, length, arith}
use Rattle.std.specs.Prelude.{◌&&◌, is_some, bytes_eq, find, option_map, option_and_then, slice_index_or}
use Rattle.std.specs.List.{list_all}
use Rattle.std.specs.Str.Parse.{digits_value}
use Rattle.std.proofs.lemmas.Bool.{false≢true}
use Rattle.std.proofs.lemmas.Slice.Eq.{bytes_eq-Decides}
use Rattle.lab_forms_texts.specs.Names.{is_key}
use Rattle.lab_wire.specs.declared.aims.Part.{Part}
use Rattle.lab_wire.specs.declared.aims.Part.TheVariants.{Word, Key, Number}
use Rattle.lab_wire.specs.declared.aims.Parts.{Parts}
use Rattle.lab_wire.specs.declared.aims.Aim.TheVariants as aim
use Rattle.lab_wire.specs.declared.route_refusals.Allowed.{Allowed}
use Rattle.lab_wire.specs.declared.route_refusals.RouteRefusal.{RouteRefusal}
use Rattle.lab_wire.specs.declared.routes.Route.{Route}
use Rattle.lab_wire.specs.declared.routes.Route.TheVariants.{Card, Persons, Form, Record, Version, Records, Trail, Copy, Posted}
use Rattle.lab_wire.specs.Numbers.{ordinal_in}
use Rattle.lab_wire.specs.Paths.{segments}
use Rattle.lab_wire.specs.Routes.{is_key_mark, is_number_mark, admits, all_admitted, aim_at, aim_by, route_of, get_method, post_method}
use Rattle.lab_wire.specs.Aims.{part_of, with_part, no_parts, parts_from, aim_of}
use Rattle.lab_wire.specs.Private.Places.{Place, places, is_to, place_to, asked_by, allowed_at, route_or_methods}
use Rattle.lab_wire.proofs.NumberLemmas.{ordinal_is}
use Rattle.lab_wire.proofs.PlaceWords.{route_in}
use Rattle.lab_wire.proofs.PlaceLemmas.{Begins}
use Rattle.lab_wire.proofs.PlaceLaws.{route_is}
use Rattle.lab_wire.proofs.TableLemmas.{true_first, true_last}

-- ---- something is given where each segment is admitted

part_by : (k n w key : Bool) (segment : List ℕ) (number : Option ℕ)
    → is_some (cond k (cond key (Some (Key segment)) None) (cond n (option_map Number number) (cond w (Some Word) None)))
    ≡ cond k key (cond n (is_some number) w)
part_by true n w true segment number = refl
part_by true n w false segment number = refl
part_by false true w key segment (Some number) = refl
part_by false true w key segment None = refl
part_by false false true key segment number = refl
part_by false false false key segment number = refl

part_admits : (mark segment : List ℕ) → is_some (part_of mark segment) ≡ admits mark segment
unfolding admits
part_admits mark segment =
    part_by (is_key_mark mark) (is_number_mark mark) (bytes_eq mark segment) (is_key segment) segment (ordinal_in segment)

both_some : (f : Part → Option Parts) (part : Option Part) (here more : Bool) → is_some part ≡ here → ((p : Part) → is_some (f p) ≡ more)
    → is_some (option_and_then f part) ≡ (here && more)
both_some f None here more is then = ap (λ v. v && more) is
both_some f (Some p) here more is then = then p ∙ ap (λ v. v && more) is

pub parts_admit : (given : Parts) (marks parts : List (List ℕ)) → is_some (parts_from given marks parts) ≡ all_admitted marks parts
parts_admit given [] [] = refl
parts_admit given [] (part ∷ parts) = refl
parts_admit given (mark ∷ marks) [] = refl
parts_admit given (mark ∷ marks) (part ∷ parts) =
    both_some (λ p. parts_from (with_part given p) marks parts) (part_of mark part) (admits mark part) (all_admitted marks parts)
    (part_admits mark part) (λ p. parts_admit (with_part given p) marks parts)

-- ---- the parameters of each text

abbrev form_text : List ℕ
form_text = codes "/forms/{form}/{version}"

abbrev record_text : List ℕ
record_text = codes "/records/{record}"

abbrev version_text : List ℕ
version_text = codes "/records/{record}/versions/{version}"

-- what was given by one more segment
given_by : (f : Part → Option Parts) (part : Option Part) (parts : Parts) → option_and_then f part ≡ Some parts
    → (p : Part) × (part ≡ Some p) × (f p ≡ Some parts)
given_by f None parts is = absurd (cc)
given_by f (Some p) parts is = (p, refl, is)

a_word : (w : Bool) (p : Part) → cond w (Some Word) None ≡ Some p → p ≡ Word
a_word true p is = cc
a_word false p is = absurd (cc)

a_key : (k : Bool) (segment : List ℕ) (p : Part) → cond k (Some (Key segment)) None ≡ Some p → p ≡ Key segment
a_key true segment p is = cc
a_key false segment p is = absurd (cc)

number_of : (segment : List ℕ) (number : Option ℕ) (p : Part) → ordinal_in segment ≡ number → option_map Number number ≡ Some p
    → p ≡ Number (digits_value 10 segment)
number_of segment None p is given = absurd (cc)
number_of segment (Some n) p is given =
    let same : n ≡ digits_value 10 segment = ordinal_is segment n is in
    cc

a_number : (segment : List ℕ) (p : Part) → option_map Number (ordinal_in segment) ≡ Some p → p ≡ Number (digits_value 10 segment)
a_number segment p is = number_of segment (ordinal_in segment) p refl is

-- as many segments as the text has
pub same_size : (given : Parts) (marks parts : List (List ℕ)) (found : Parts) → parts_from given marks parts ≡ Some found → length parts ≡ length marks
same_size given [] [] found is = refl
same_size given [] (part ∷ parts) found is = absurd (cc)
same_size given (mark ∷ marks) [] found is = absurd (cc)
same_size given (mark ∷ marks) (part ∷ parts) found is =
    let more = given_by (λ p. parts_from (with_part given p) marks parts) (part_of mark part) found is in
    ap (λ n. suc n) (same_size (with_part given more.0) marks parts found more.2)

form_aim : (p q r : Part) (given : Parts) (key : List ℕ) (n : ℕ) → p ≡ Word → q ≡ Key key → r ≡ Number n
    → Some (with_part (with_part (with_part no_parts p) q) r) ≡ Some given → aim_of Form given.first given.second ≡ Some (aim.Form key n)
form_aim p q r given key n word is number whole =
    let same : given ≡ with_part (with_part (with_part no_parts p) q) r = cc in
    rw (same, word, is, number) refl

form_given : (parts : List (List ℕ)) (given : Parts) → parts_from no_parts (codes "forms" ∷ codes "{form}" ∷ codes "{version}" ∷ []) parts ≡ Some given
    → aim_of Form given.first given.second ≡ Some (aim.Form (slice_index_or parts 1 []) (digits_value 10 (slice_index_or parts 2 [])))
form_given [] given is = absurd (cc)
form_given (a ∷ []) given is = absurd (omega (arith, same_size no_parts (codes "forms" ∷ codes "{form}" ∷ codes "{version}" ∷ []) (a ∷ []) given is))
form_given (a ∷ b ∷ []) given is = absurd (omega (arith, same_size no_parts (codes "forms" ∷ codes "{form}" ∷ codes "{version}" ∷ []) (a ∷ b ∷ []) given is))
form_given (a ∷ b ∷ c ∷ d ∷ more) given is = absurd (omega (arith, same_size no_parts (codes "forms" ∷ codes "{form}" ∷ codes "{version}" ∷ []) (a ∷ b ∷ c ∷ d ∷ more) given is))
form_given (a ∷ b ∷ c ∷ []) given is =
    let one = given_by (λ p. parts_from (with_part no_parts p) (codes "{form}" ∷ codes "{version}" ∷ []) (b ∷ c ∷ [])) (part_of (codes "forms") a) given is in
    let two = given_by (λ p. parts_from (with_part (with_part no_parts one.0) p) (codes "{version}" ∷ []) (c ∷ [])) (part_of (codes "{form}") b) given one.2 in
    let three = given_by (λ p. parts_from (with_part (with_part (with_part no_parts one.0) two.0) p) [] []) (part_of (codes "{version}") c) given two.2 in
    form_aim one.0 two.0 three.0 given b (digits_value 10 c) (a_word (bytes_eq (codes "forms") a) one.0 one.1) (a_key (is_key b) b two.0 two.1)
    (a_number c three.0 three.1) three.2

record_of : (p q : Part) (given : Parts) (n : ℕ) → p ≡ Word → q ≡ Number n → Some (with_part (with_part no_parts p) q) ≡ Some given
    → aim_of Record given.first given.second ≡ Some (aim.Record n)
record_of p q given n word number whole =
    let same : given ≡ with_part (with_part no_parts p) q = cc in
    rw (same, word, number) refl

record_given : (parts : List (List ℕ)) (given : Parts) → parts_from no_parts (codes "records" ∷ codes "{record}" ∷ []) parts ≡ Some given
    → aim_of Record given.first given.second ≡ Some (aim.Record (digits_value 10 (slice_index_or parts 1 [])))
record_given [] given is = absurd (cc)
record_given (a ∷ []) given is = absurd (omega (arith, same_size no_parts (codes "records" ∷ codes "{record}" ∷ []) (a ∷ []) given is))
record_given (a ∷ b ∷ c ∷ more) given is = absurd (omega (arith, same_size no_parts (codes "records" ∷ codes "{record}" ∷ []) (a ∷ b ∷ c ∷ more) given is))
record_given (a ∷ b ∷ []) given is =
    let one = given_by (λ p. parts_from (with_part no_parts p) (codes "{record}" ∷ []) (b ∷ [])) (part_of (codes "records") a) given is in
    let two = given_by (λ p. parts_from (with_part (with_part no_parts one.0) p) [] []) (part_of (codes "{record}") b) given one.2 in
    record_of one.0 two.0 given (digits_value 10 b) (a_word (bytes_eq (codes "records") a) one.0 one.1) (a_number b two.0 two.1) two.2

version_aim : (p q r s : Part) (given : Parts) (m n : ℕ) → p ≡ Word → q ≡ Number m → r ≡ Word → s ≡ Number n
    → Some (with_part (with_part (with_part (with_part no_parts p) q) r) s) ≡ Some given
    → aim_of Version given.first given.second ≡ Some (aim.Version m n)
version_aim p q r s given m n word number word_too number_too whole =
    let same : given ≡ with_part (with_part (with_part (with_part no_parts p) q) r) s = cc in
    rw (same, word, number, word_too, number_too) refl

version_given : (parts : List (List ℕ)) (given : Parts)
    → parts_from no_parts (codes "records" ∷ codes "{record}" ∷ codes "versions" ∷ codes "{version}" ∷ []) parts ≡ Some given
    → aim_of Version given.first given.second
    ≡ Some (aim.Version (digits_value 10 (slice_index_or parts 1 [])) (digits_value 10 (slice_index_or parts 3 [])))
version_given [] given is = absurd (cc)
version_given (a ∷ []) given is = absurd (omega (arith, same_size no_parts (codes "records" ∷ codes "{record}" ∷ codes "versions" ∷ codes "{version}" ∷ []) (a ∷ []) given is))
version_given (a ∷ b ∷ []) given is = absurd (omega (arith, same_size no_parts (codes "records" ∷ codes "{record}" ∷ codes "versions" ∷ codes "{version}" ∷ []) (a ∷ b ∷ []) given is))
version_given (a ∷ b ∷ c ∷ []) given is = absurd (omega (arith, same_size no_parts (codes "records" ∷ codes "{record}" ∷ codes "versions" ∷ codes "{version}" ∷ []) (a ∷ b ∷ c ∷ []) given is))
version_given (a ∷ b ∷ c ∷ d ∷ e ∷ more) given is = absurd (omega (arith, same_size no_parts (codes "records" ∷ codes "{record}" ∷ codes "versions" ∷ codes "{version}" ∷ []) (a ∷ b ∷ c ∷ d ∷ e ∷ more) given is))
version_given (a ∷ b ∷ c ∷ d ∷ []) given is =
    let one = given_by (λ p. parts_from (with_part no_parts p) (codes "{record}" ∷ codes "versions" ∷ codes "{version}" ∷ []) (b ∷ c ∷ d ∷ []))
    (part_of (codes "records") a) given is in
    let two = given_by (λ p. parts_from (with_part (with_part no_parts one.0) p) (codes "versions" ∷ codes "{version}" ∷ []) (c ∷ d ∷ []))
    (part_of (codes "{record}") b) given one.2 in
    let three = given_by (λ p. parts_from (with_part (with_part (with_part no_parts one.0) two.0) p) (codes "{version}" ∷ []) (d ∷ []))
    (part_of (codes "versions") c) given two.2 in
    let four = given_by (λ p. parts_from (with_part (with_part (with_part (with_part no_parts one.0) two.0) three.0) p) [] [])
    (part_of (codes "{version}") d) given three.2 in
    version_aim one.0 two.0 three.0 four.0 given (digits_value 10 b) (digits_value 10 d) (a_word (bytes_eq (codes "records") a) one.0 one.1)
    (a_number b two.0 two.1) (a_word (bytes_eq (codes "versions") c) three.0 three.1) (a_number d four.0 four.1) four.2

-- ---- the texts of the routes that have parameters

abbrev fits : Route → List ℕ → Bool
fits Form text = bytes_eq text form_text
fits Record text = bytes_eq text record_text
fits Version text = bytes_eq text version_text
fits _ text = true

abbrev fits_if : Option Route → List ℕ → Bool
fits_if None text = true
fits_if (Some route) text = fits route text

abbrev fits_both : Place → Bool
fits_both p = fits_if p.get p.text && fits_if p.post p.text

places_fit : list_all fits_both places ≡ true
places_fit = refl

found_passes : (test find_by : Place → Bool) (some : List Place) (p : Place) → find find_by some ≡ Some p → list_all test some ≡ true → test p ≡ true
found_passes test find_by [] p is all = absurd (cc)
found_passes test find_by (one ∷ more) p is all = by (find_by one) is (found_passes test find_by more p)
  where
    by : (v : Bool) → cond v (Some one) (find find_by more) ≡ Some p → (find find_by more ≡ Some p → list_all test more ≡ true → test p ≡ true)
        → test p ≡ true
    by true here rest =
        let same : one ≡ p = cc in
        subst (λ x. test x ≡ true) same (true_first (test one) (list_all test more) all)
    by false there rest = rest there (true_last (test one) (list_all test more) all)

asked_fits : (g o : Bool) (get post : Option Route) (text : List ℕ) (route : Route) → (fits_if get text && fits_if post text) ≡ true
    → cond g get (cond o post None) ≡ Some route → fits route text ≡ true
asked_fits true o None post text route fit is = absurd (cc)
asked_fits true o (Some read) post text route fit is =
    let same : read ≡ route = cc in
    subst (λ r. fits r text ≡ true) same (true_first (fits read text) (fits_if post text) fit)
asked_fits false true get None text route fit is = absurd (cc)
asked_fits false true get (Some posted) text route fit is =
    let same : posted ≡ route = cc in
    subst (λ r. fits r text ≡ true) same (true_last (fits_if get text) (fits posted text) fit)
asked_fits false false get post text route fit is = absurd (cc)

aim_given : (route : Route) (text place : List ℕ) (given : Parts) → fits route text ≡ true
    → parts_from no_parts (segments text) (segments place) ≡ Some given → aim_of route given.first given.second ≡ Some (aim_at place route)
unfolding segments
aim_given Card text place given fit is = refl
aim_given Persons text place given fit is = refl
aim_given Form text place given fit is =
    form_given (segments place) given
    (subst (λ t. parts_from no_parts (segments t) (segments place) ≡ Some given) ((bytes_eq-Decides text form_text).0 fit) is)
aim_given Record text place given fit is =
    record_given (segments place) given
    (subst (λ t. parts_from no_parts (segments t) (segments place) ≡ Some given) ((bytes_eq-Decides text record_text).0 fit) is)
aim_given Version text place given fit is =
    version_given (segments place) given
    (subst (λ t. parts_from no_parts (segments t) (segments place) ≡ Some given) ((bytes_eq-Decides text version_text).0 fit) is)
aim_given Records text place given fit is = refl
aim_given Trail text place given fit is = refl
aim_given Copy text place given fit is = refl
aim_given (Posted post) text place given fit is = refl

-- whether a place is one of a text's, by what was read of it
pub admitted_if : (text place : List ℕ) (read : Option Parts) → read ≡ parts_from no_parts (segments text) (segments place)
    → all_admitted (segments text) (segments place) ≡ is_some read
admitted_if text place read is = sym (parts_admit no_parts (segments text) (segments place)) ∙ ap is_some (sym is)

-- what a method asks at the place of the table that admits it
aim_found : (method place : List ℕ) (p : Place) (route : Route) (given : Parts) → place_to place ≡ Some p → asked_by method p ≡ Some route
    → parts_from no_parts (segments p.text) (segments place) ≡ Some given → aim_of route given.first given.second ≡ Some (aim_at place route)
unfolding place_to
aim_found method place p route given found asked is =
    aim_given route p.text place given
    (asked_fits (bytes_eq get_method method) (bytes_eq post_method method) p.get p.post p.text route
    (found_passes fits_both (is_to place) places p found places_fit) asked)
    is

route_asked : (asked : Option Route) (methods : Allowed) (route : Route) → route_or_methods asked methods ≡ Ok route → asked ≡ Some route
route_asked None methods route is = absurd (cc)
route_asked (Some other) methods route is = cc

pub asks_there : (method place : List ℕ) (p : Place) (route : Route) (given : Parts) → Begins place → Some p ≡ place_to place
    → route_or_methods (asked_by method p) (allowed_at p) ≡ Ok route → parts_from no_parts (segments p.text) (segments place) ≡ Some given
    → (aim_of route given.first given.second ≡ Some (aim_at place route)) × (aim_by place (route_of method place) ≡ Ok (aim_at place route))
asks_there method place p route given begins there asked is = (
  aim_found method place p route given (sym there) (route_asked (asked_by method p) (allowed_at p) route asked) is,
  ap (aim_by place) (route_is method place begins ∙ ap (route_in method) (sym there) ∙ asked),
)

pub refused_there : (method place : List ℕ) (p : Option Place) (refusal : RouteRefusal) → Begins place → p ≡ place_to place
    → route_in method p ≡ Err refusal → aim_by place (route_of method place) ≡ Err refusal
refused_there method place p refusal begins there refused =
    ap (aim_by place) (route_is method place begins ∙ ap (route_in method) (sym there) ∙ refused)
