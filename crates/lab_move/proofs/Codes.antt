-- The codes of an old file, in their order: they are those of its laboratories, and each has one.
use Rattle.std.proofs.Common.{◌≡◌, ◌≢◌, ℕ, Bool, true, false, ◌||◌, cond, List, [], ◌∷◌, ◌++◌, map, find, length, Option, Some, None, option_map, refl, sym, ap, subst, ◌∙◌, bytes_eq}
use Rattle.std.specs.Prelude.{if◌then◌else◌}
use Rattle.std.specs.List.{list_any}
use Rattle.std.specs.Cmp.{IsTotalOrder}
use Rattle.std.specs.Cmp.Lexicographic.{nat_list_cmp_total}
use Rattle.std.proofs.lemmas.List.{length-map}
use Rattle.std.proofs.lemmas.List.Sorted.{list_any-IsPermutation, length_permutation}
use Rattle.sqlite_keyed.specs.Lists.{sort_by}
use Rattle.sqlite_keyed.proofs.SortLemmas.{IsPermutation-sort_by}
use Rattle.lab_records_kept.specs.declared.labs.Lab.{Lab}
use Rattle.lab_records_keeper.specs.Worlds.{Meaning, SameMeaning, Places}
use Rattle.lab_store_tables.specs.Rows.{LabRow, Tables}
use Rattle.lab_store_tables.specs.Meaning.{has_code, lab_in, meaning}
use Rattle.lab_move_tables.specs.Shown.{by_lab}
use Rattle.lab_move_read.specs.Laboratories.{codes_of, IsLabOf, IsLabOfRow}
use Rattle.lab_move.specs.Moving.{meaning_among}
use Rattle.lab_store_tables.proofs.Comparing.{text_is, text_alike}

pub total_by_lab : IsTotalOrder by_lab
total_by_lab = record {
  antisymm = λ x y. nat_list_cmp_total.antisymm x.code y.code;
  trans = λ x y z. nat_list_cmp_total.trans x.code y.code z.code;
  congr = λ x y z. nat_list_cmp_total.congr x.code y.code z.code;
}

-- ---- as many as laboratories

pub as_many : (t : Tables) → length t.labs ≡ length (codes_of t)
as_many t = length_permutation (sort_by by_lab t.labs) t.labs (IsPermutation-sort_by by_lab total_by_lab t.labs) ∙ sym (length-map (sort_by by_lab t.labs) _)

-- ---- a code that isn't among them has no laboratory

pub coded : (code : List ℕ) (rows : List LabRow) → list_any (λ one. bytes_eq one code) (map (λ (row : LabRow). row.code) rows) ≡ list_any (has_code code) rows
coded code [] = refl
coded code (row ∷ rows) = ap (λ b. bytes_eq row.code code || b) (coded code rows)

pub unfound : (code : List ℕ) (rows : List LabRow) → list_any (has_code code) rows ≡ false → find (has_code code) rows ≡ None
unfound code [] none = refl
unfound code (row ∷ rows) none = go (has_code code row) none (unfound code rows)
  where
    go : (b : Bool) → (b || list_any (has_code code) rows) ≡ false → (list_any (has_code code) rows ≡ false → find (has_code code) rows ≡ None)
        → cond b (Some row) (find (has_code code) rows) ≡ None
    go true h more = absurd cc
    go false h more = more h

pub all_among : (t : Tables) → SameMeaning (meaning_among (codes_of t) (meaning t)) (meaning t)
all_among t code = go (list_any (λ one. bytes_eq one code) (codes_of t)) refl
  where
    go : (b : Bool) → list_any (λ one. bytes_eq one code) (codes_of t) ≡ b → meaning t code ≡ (if b then meaning t code else None)
    go true e = refl
    go false e =
        ap (option_map (lab_in t))
        (unfound code t.labs
        (sym (list_any-IsPermutation (has_code code) (sort_by by_lab t.labs) t.labs (IsPermutation-sort_by by_lab total_by_lab t.labs)) ∙ sym (coded code (sort_by by_lab t.labs)) ∙ e))

-- ---- the laboratory of a code

found_code : (code : List ℕ) (rows : List LabRow) (row : LabRow) → find (has_code code) rows ≡ Some row → row.code ≡ code
found_code code [] row h = absurd cc
found_code code (one ∷ rows) row h = go (has_code code one) refl h (found_code code rows row)
  where
    go : (b : Bool) → has_code code one ≡ b → cond b (Some one) (find (has_code code) rows) ≡ Some row
        → (find (has_code code) rows ≡ Some row → row.code ≡ code) → row.code ≡ code
    go true e is more = let same : one ≡ row = cc in sym (ap (λ (it : LabRow). it.code) same) ∙ text_is one.code code e
    go false e is more = more is

pub lab_means : (t : Tables) (code : List ℕ) (lab : Lab) → IsLabOf t code (Some lab) → (meaning t code ≡ Some lab) × (lab.code ≡ code)
lab_means t code lab is = go (find (has_code code) t.labs) refl is
  where
    go : (o : Option LabRow) → find (has_code code) t.labs ≡ o → IsLabOfRow t o (Some lab) → (option_map (lab_in t) o ≡ Some lab) × (lab.code ≡ code)
    go None e it = absurd cc
    go (Some row) e it = let same : lab ≡ lab_in t row = let whole = it.0 in cc in (sym it.0, ap (λ (one : Lab). one.code) same ∙ found_code code t.labs row e)

-- ---- one laboratory more

any_push : {X : Type 0} (p : X → Bool) (xs : List X) (x : X) (b : Bool) → p x ≡ b → list_any p (xs ++ x ∷ []) ≡ (list_any p xs || b)
any_push p [] x true e = ap (λ c. c || false) e
any_push p [] x false e = ap (λ c. c || false) e
any_push p (y ∷ ys) x b e = ap (λ c. p y || c) (any_push p ys x b e) ∙ sym (or_moved (p y) (list_any p ys) b)
  where
    or_moved : (a c d : Bool) → ((a || c) || d) ≡ (a || (c || d))
    or_moved true c d = refl
    or_moved false c d = refl

or_true : (b : Bool) → (b || true) ≡ true
or_true true = refl
or_true false = refl

or_false : (b : Bool) → (b || false) ≡ b
or_false true = refl
or_false false = refl

pub among_more : (done : List (List ℕ)) (code : List ℕ) (held was now : Meaning) (lab : Lab) → held code ≡ Some lab → lab.code ≡ code → Places lab was now
    → SameMeaning (meaning_among done held) was → SameMeaning (meaning_among (done ++ code ∷ []) held) now
among_more done code held was now lab there named places so other = go (bytes_eq code other) refl
  where
    chosen : (b : Bool) → list_any (λ one. bytes_eq one other) (done ++ code ∷ []) ≡ b
        → meaning_among (done ++ code ∷ []) held other ≡ (if b then held other else None)
    chosen b e = ap (λ c. if c then held other else None) e

    go : (b : Bool) → bytes_eq code other ≡ b → now other ≡ meaning_among (done ++ code ∷ []) held other
    go true e =
        let same : code ≡ other = text_is code other e in
        subst (λ it. now it ≡ held it) same (ap now (sym named) ∙ places.placed.here ∙ sym there) ∙ sym
        (chosen true (any_push (λ one. bytes_eq one other) done code true e ∙ or_true (list_any (λ one. bytes_eq one other) done)))
    go false e =
        let apart : other ≢ lab.code = λ same. let alike : bytes_eq code other ≡ true = text_alike code other (sym (same ∙ named)) in cc in
        places.placed.others other apart ∙ so other ∙ sym
        (chosen (list_any (λ one. bytes_eq one other) done) (any_push (λ one. bytes_eq one other) done code false e ∙ or_false (list_any (λ one. bytes_eq one other) done)))
