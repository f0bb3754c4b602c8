-- Each place of the table goes into a router: its text reads, and it conflicts with none before it.
use Rattle.std.proofs.Common.{◌≡◌, ◌<◌, ◌≤◌, ℕ, zero, suc, ◌+◌, List, [], ◌∷◌, Bool, true, false, Result, Ok, Err, refl, sym, ap, subst, ◌∙◌, is_none, map, length, drop, get_or, arith, add-one, drop-cons}
use Rattle.std.specs.Prelude.{◌&&◌}
use Rattle.std.proofs.Math.ListN.{drop_of_length-le}
use Rattle.std.proofs.lemmas.Bool.{false≢true}
use Rattle.matchit.specs.Route.{Scan, parse_route}
use Rattle.matchit.specs.Router.{InsertsRead, nearest}
use Rattle.matchit.specs.declared.error.InsertError.{InsertError}
use Rattle.matchit.specs.declared.error.InsertError.TheVariants.{Conflict, InvalidParam, InvalidParamSegment, InvalidCatchAll, OutOfMemory}
use Rattle.matchit.proofs.OnLiterals.{matchit_on_literals}
use Rattle.lab_wire.specs.declared.routes.Place.{Place as PlaceOfCode}
use Rattle.lab_wire.specs.Private.Places.{Place, place_shown, place_at, places}
use Rattle.lab_wire.specs.Places.{texts}
use Rattle.lab_wire.specs.Router.{Rows, among, router_with, router_of_table}
use Rattle.lab_wire.specs.Private.Router.{text_at}
use Rattle.lab_wire.proofs.TableLemmas.{true_first, true_last}

abbrev pub goes_in : Result Scan InsertError → Rows → Bool
goes_in (Ok read) rows = is_none (nearest read.pattern rows)
goes_in (Err fault) rows = false

abbrev pub each_goes_in : Rows → ℕ → List (List ℕ) → Bool
each_goes_in rows number [] = true
each_goes_in rows number (text ∷ more) =
    goes_in (parse_route text) rows && each_goes_in (among (parse_route text) number rows) (number + 1) more

pub table_goes_in : each_goes_in [] 0 texts ≡ true
unfolding matchit_on_literals
table_goes_in = refl

pub inserted : (read : Result Scan InsertError) (number : ℕ) (old new : Rows) → goes_in read old ≡ true
    → InsertsRead read number old new (Ok tt) → new ≡ among read number old
inserted (Ok read) number old new goes is = is.1
inserted (Err fault) number old new goes is = absurd (false≢true goes)

-- memory alone may be missing
abbrev pub IsOfMemory : InsertError → Type 0
IsOfMemory fault = fault ≡ OutOfMemory

pub refused : (read : Result Scan InsertError) (number : ℕ) (old new : Rows) (fault : InsertError) → goes_in read old ≡ true
    → InsertsRead read number old new (Err fault) → IsOfMemory fault
refused (Ok read) number old new (Conflict with) goes is = absurd (false≢true (ap is_none (sym is.1.1) ∙ goes))
refused (Ok read) number old new OutOfMemory goes is = refl
refused (Ok read) number old new InvalidParamSegment goes is = absurd is.1
refused (Ok read) number old new InvalidParam goes is = absurd is.1
refused (Ok read) number old new InvalidCatchAll goes is = absurd is.1
refused (Err other) number old new fault goes is = absurd (false≢true goes)

-- ---- one after another

-- the texts that are left go in, and then the router is that of the table
abbrev pub Left : Rows → ℕ → List (List ℕ) → Type 0
Left rows number some = (each_goes_in rows number some ≡ true) × (router_with rows number some ≡ router_of_table)

pub first_left : Left [] 0 texts
unfolding router_of_table
first_left = (table_goes_in, refl)

goes_on : (rows new : Rows) (number : ℕ) (text : List ℕ) (more : List (List ℕ)) → Left rows number (text ∷ more)
    → InsertsRead (parse_route text) number rows new (Ok tt) → Left new (number + 1) more
goes_on rows new number text more left is =
    let same = inserted (parse_route text) number rows new (true_first _ _ left.0) is in (
      subst (λ r. each_goes_in r (number + 1) more ≡ true) (sym same) (true_last (goes_in (parse_route text) rows) _ left.0),
      ap (λ r. router_with r (number + 1) more) same ∙ left.1,
    )

text_left : (number : ℕ) → number < length texts → drop number texts ≡ text_at number ∷ drop (number + 1) texts
text_left number within = rw add-one (drop-cons texts number [] within)

pub next_left : (rows new : Rows) (number : ℕ) → number < length texts → Left rows number (drop number texts)
    → InsertsRead (parse_route (text_at number)) number rows new (Ok tt) → Left new (number + 1) (drop (number + 1) texts)
next_left rows new number within left is =
    goes_on rows new number (text_at number) (drop (number + 1) texts) (subst (Left rows number) (text_left number within) left) is

pub no_fault : (rows new : Rows) (number : ℕ) (fault : InsertError) → number < length texts → Left rows number (drop number texts)
    → InsertsRead (parse_route (text_at number)) number rows new (Err fault) → IsOfMemory fault
no_fault rows new number fault within left is =
    let here : Left rows number (text_at number ∷ drop (number + 1) texts) = subst (Left rows number) (text_left number within) left in
    refused (parse_route (text_at number)) number rows new fault (true_first _ _ here.0) is

pub all_left : (rows : Rows) (number : ℕ) → length texts ≤ number → Left rows number (drop number texts) → rows ≡ router_of_table
all_left rows number over left =
    let none : drop number texts ≡ [] = drop_of_length-le texts over in
    (subst (Left rows number) none left).1

-- ---- the table of the code

pub text_of : (table : List PlaceOfCode) (some : List (List ℕ)) (number : ℕ) (none : PlaceOfCode) → map place_shown table ≡ map place_at some
    → number < length table → (get_or table number none).text.now ≡ get_or some number []
text_of [] some number none is within = absurd (omega arith)
text_of (place ∷ table) [] number none is within = absurd (cc)
text_of (place ∷ table) (text ∷ some) zero none is within = ap (λ (l : List Place). (get_or l 0 (place_at [])).text) is
text_of (place ∷ table) (text ∷ some) (suc number) none is within =
    text_of table some number none (ap (drop 1) is) (omega arith)

pub place_of : (table : List PlaceOfCode) (some : List (List ℕ)) (number : ℕ) (none : PlaceOfCode) → map place_shown table ≡ map place_at some
    → number < length table → place_shown (get_or table number none) ≡ place_at (get_or some number [])
place_of [] some number none is within = absurd (omega arith)
place_of (place ∷ table) [] number none is within = absurd (cc)
place_of (place ∷ table) (text ∷ some) zero none is within = ap (λ (l : List Place). get_or l 0 (place_at [])) is
place_of (place ∷ table) (text ∷ some) (suc number) none is within =
    place_of table some number none (ap (drop 1) is) (omega arith)

length_shown : (table : List PlaceOfCode) → length table ≡ length (map place_shown table)
length_shown [] = refl
length_shown (place ∷ table) = ap (λ n. suc n) (length_shown table)

pub as_many : (table : List PlaceOfCode) → map place_shown table ≡ places → length table ≡ length texts
as_many table is =
    let shown : length (map place_shown table) ≡ length texts = ap length is in
    length_shown table ∙ shown
