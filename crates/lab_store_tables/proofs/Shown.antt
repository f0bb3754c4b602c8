-- What a laboratory is shown to have is what its rows are: as many of them, and each the one of a row. And what a change that
-- fits says of the laboratory whose row is found.
use Rattle.std.proofs.Common.{◌≡◌, ℕ, Bool, true, cond, List, [], ◌∷◌, ◌++◌, map, filter, find, length, reverse, Option, Some, None, option_map, MatchOption, refl, sym, ap, subst, ◌∙◌, Ordering, bytes_eq}
use Rattle.std.specs.List.{AllByRecursion}
use Rattle.std.proofs.lemmas.List.{length-map}
use Rattle.std.proofs.lemmas.Grind.{reverse_onto}
use Rattle.sqlite_rules.specs.Lists.{Has}
use Rattle.sqlite_rules.proofs.ListLemmas.{all_from, has_filtered}
use Rattle.sqlite_keyed.specs.Lists.{sort_by}
use Rattle.sqlite_keyed.proofs.ListLemmas.{all_map, all-append}
use Rattle.lab_people_access.specs.declared.sessions.Session.{Session}
use Rattle.lab_people_access.specs.Sessions.{session_of}
use Rattle.lab_records_kept.specs.declared.changes.Change.{Change}
use Rattle.lab_records_kept.specs.Changes.{Fits, ChangesFit}
use Rattle.lab_store_tables.specs.Rows.{LabRow, Tables}
use Rattle.lab_store_tables.specs.Meaning.{lab_in, has_code, meaning}
use Rattle.lab_store_tables.proofs.SortLaws.{all_sorted}
use Rattle.lab_store_tables.proofs.NumberLaws.{length_sorted}

-- ---- rows that are shown sorted

pub as_many : {X Y : Type 0} (cmp : X → X → Ordering) (shown : X → Y) (rows : List X) → length (map shown (sort_by cmp rows)) ≡ length rows
as_many cmp shown rows = length-map (sort_by cmp rows) shown ∙ length_sorted cmp rows

-- one of the rows that a test admits is shown so
abbrev pub IsShown : {X Y : Type 0} → (X → Y) → (X → Bool) → List X → Y → Type 0
IsShown {X} shown mine rows y = (x : X) × Has rows x × (mine x ≡ true) × (y ≡ shown x)

pub all_shown : {X Y : Type 0} (cmp : X → X → Ordering) (shown : X → Y) (mine : X → Bool) (rows : List X)
    → AllByRecursion (IsShown shown mine rows) (map shown (sort_by cmp (filter mine rows)))
all_shown cmp shown mine rows =
    all_map (IsShown shown mine rows) shown (sort_by cmp (filter mine rows))
    (all_sorted cmp (λ x. IsShown shown mine rows (shown x)) (filter mine rows)
    (all_from (λ x. IsShown shown mine rows (shown x)) (filter mine rows) (λ x has. let it = has_filtered mine rows x has in (x, it.0, it.1, refl))))

reversed : {X : Type 0} (x : X) (xs : List X) → reverse (x ∷ xs) ≡ reverse xs ++ x ∷ []
reversed x xs = reverse_onto xs x []

pub all_reversed : {X : Type 0} (P : X → Type 0) (xs : List X) → AllByRecursion P xs → AllByRecursion P (reverse xs)
all_reversed P [] all = tt
all_reversed P (x ∷ xs) all = subst (AllByRecursion P) (sym (reversed x xs)) (all-append P (reverse xs) (x ∷ []) (all_reversed P xs all.1) (all.0, tt))

-- ---- what is found

pub session_is_found : (sessions : List Session) (token : List ℕ) → session_of sessions token ≡ find (λ (one : Session). bytes_eq one.token token) sessions
session_is_found [] token = refl
session_is_found (one ∷ others) token = ap (λ o. cond (bytes_eq one.token token) (Some one) o) (session_is_found others token)

pub matched : {A : Type 0} (o : Option A) (P : A → Type 0) → MatchOption o ⊥ P → (a : A) × (o ≡ Some a) × P a
matched None P h = absurd h
matched (Some a) P h = (a, refl, h)

-- ---- what fits

pub fits_here : (t : Tables) (code : List ℕ) (lab : LabRow) (one : Change) → find (has_code code) t.labs ≡ Some lab → ChangesFit (meaning t code) (one ∷ [])
    → Fits (lab_in t lab) one
fits_here t code lab one found fit = (subst (λ o. ChangesFit (option_map (lab_in t) o) (one ∷ [])) found fit).0
