-- The first laboratory of an old file that isn't sound is the one of the least code, as the codes are in order.
use Rattle.std.proofs.Common.{◌≡◌, ◌≢◌, inl, inr, ℕ, Bool, true, false, ◌||◌, cond, List, [], ◌∷◌, ◌++◌, find, Option, Some, None, Ordering, Less, Equal, Greater, is_gt, is_lt, refl, sym, ap, subst, ◌∙◌, bytes_eq}
use Rattle.std.specs.Prelude.{All}
use Rattle.std.specs.List.{AllByRecursion, list_any}
use Rattle.std.specs.Ordering.{nat_cmp, ordering_reverse}
use Rattle.std.specs.Cmp.Lexicographic.{slice_cmp, nat_list_cmp_total}
use Rattle.std.proofs.lemmas.Cmp.{tied_itself, upto}
use Rattle.std.proofs.lemmas.Map.Lookups.{exact_bytes}
use Rattle.std.proofs.lemmas.List.Elements.{recursion_from_All}
use Rattle.std.proofs.lemmas.List.Sorted.{list_any-IsPermutation}
use Rattle.sqlite_trees.specs.Tree.{IsAscending}
use Rattle.sqlite_keyed.specs.Lists.{insert_sorted, sort_by}
use Rattle.sqlite_keyed.proofs.ListLemmas.{all_weaker, ascending-map}
use Rattle.sqlite_keyed.proofs.SortLemmas.{IsPermutation-sort_by}
use Rattle.lab_records_kept.specs.declared.labs.Lab.{Lab}
use Rattle.lab_store_tables.specs.Rows.{LabRow, Tables}
use Rattle.lab_store_tables.specs.Meaning.{has_code}
use Rattle.lab_store_tables.proofs.Comparing.{text_is}
use Rattle.lab_move_tables.specs.Shown.{by_lab}
use Rattle.lab_move_read.specs.Laboratories.{codes_of, IsLabOfRow, IsRowUnkept}
use Rattle.lab_records_kept.specs.Bound.{IsBound}
use Rattle.lab_records_kept.specs.Dual.{IsDual}
use Rattle.lab_move.specs.Moving.{IsFirstUnsound, IsSoundIn, IsUnsoundIn}
use Rattle.lab_move.specs.Owed.{StopsAt, precedes}
use Rattle.lab_move.proofs.Codes.{total_by_lab, coded, unfound}

-- ---- a sound laboratory is none that isn't sound

one_lab : (t : Tables) (row : Option LabRow) (one other : Lab) → IsLabOfRow t row (Some one) → IsLabOfRow t row (Some other) → one ≡ other
one_lab t None one other first second = absurd cc
one_lab t (Some row) one other first second = let both : Some one ≡ Some other = first.0 ∙ sym second.0 in cc

kept_not : (t : Tables) (row : Option LabRow) (one : Lab) → IsLabOfRow t row (Some one) → ¬ IsRowUnkept t row
kept_not t None one is unkept = unkept
kept_not t (Some row) one is unkept = let kept = is.1 in absurd cc

pub sound_or_not : (t : Tables) (code : List ℕ) → IsSoundIn t code → ¬ IsUnsoundIn t code
sound_or_not t code sound (inl unkept) = kept_not t (find (has_code code) t.labs) sound.0 sound.1 unkept
sound_or_not t code sound (inr it) =
    let same : it.0 ≡ sound.0 = one_lab t (find (has_code code) t.labs) it.0 sound.0 it.1 sound.1 in
    it.2 (subst (λ lab. IsBound lab × IsDual lab) (sym same) (sound.2.bound, sound.2.dual))

-- ---- a laboratory that isn't sound is one of the file

there : (code : List ℕ) (rows : List LabRow) (b : Bool) → list_any (has_code code) rows ≡ b → find (has_code code) rows ≢ None → b ≡ true
there code rows true e some = refl
there code rows false e some = absurd (some (unfound code rows e))

unsound_found : (t : Tables) (code : List ℕ) → IsUnsoundIn t code → find (has_code code) t.labs ≢ None
unsound_found t code (inl unkept) none = subst (IsRowUnkept t) none unkept
unsound_found t code (inr it) none = let wrong : IsLabOfRow t None (Some it.0) = subst (λ row. IsLabOfRow t row (Some it.0)) none it.1 in absurd cc

-- its code is among the codes
pub among : (t : Tables) (code : List ℕ) → list_any (has_code code) t.labs ≡ true → list_any (λ one. bytes_eq one code) (codes_of t) ≡ true
among t code is = coded code (sort_by by_lab t.labs) ∙ list_any-IsPermutation (has_code code) (sort_by by_lab t.labs) t.labs (IsPermutation-sort_by by_lab total_by_lab t.labs) ∙ is

pub unsound_among : (t : Tables) (code : List ℕ) → IsUnsoundIn t code → list_any (λ one. bytes_eq one code) (codes_of t) ≡ true
unsound_among t code unsound = among t code (there code t.labs (list_any (has_code code) t.labs) refl (unsound_found t code unsound))

-- ---- the codes are in order

abbrev NotAfter : List ℕ → List ℕ → Type 0
NotAfter one other = is_gt (slice_cmp nat_cmp one other) ≡ false

abbrev RowNotAfter : LabRow → LabRow → Type 0
RowNotAfter one other = is_gt (by_lab one other) ≡ false

not_gt : (o : Ordering) → is_gt o ≡ true → is_gt (ordering_reverse o) ≡ false
not_gt Less h = absurd cc
not_gt Equal h = absurd cc
not_gt Greater h = refl

all_put : (P : LabRow → Type 0) (new : LabRow) (rows : List LabRow) → P new → AllByRecursion P rows → AllByRecursion P (insert_sorted by_lab new rows)
all_put P new [] h all = (h, tt)
all_put P new (row ∷ rows) h all = go (is_gt (by_lab new row)) (all_put P new rows h all.1)
  where
    go : (b : Bool) → AllByRecursion P (insert_sorted by_lab new rows) → AllByRecursion P (cond b (row ∷ insert_sorted by_lab new rows) (new ∷ row ∷ rows))
    go true more = (all.0, more)
    go false more = (h, all)

up_put : (new : LabRow) (rows : List LabRow) → IsAscending RowNotAfter rows → IsAscending RowNotAfter (insert_sorted by_lab new rows)
up_put new [] up = (tt, tt)
up_put new (row ∷ rows) up = go (is_gt (by_lab new row)) refl (up_put new rows up.1)
  where
    go : (b : Bool) → is_gt (by_lab new row) ≡ b → IsAscending RowNotAfter (insert_sorted by_lab new rows)
        → IsAscending RowNotAfter (cond b (row ∷ insert_sorted by_lab new rows) (new ∷ row ∷ rows))
    go true e more =
        let back : RowNotAfter row new = ap is_gt (total_by_lab.antisymm row new) ∙ not_gt (by_lab new row) e in
        (all_put (RowNotAfter row) new rows back up.0, more)
    go false e more = ((e, all_weaker (RowNotAfter row) (RowNotAfter new) (λ z. upto total_by_lab new row z e) rows up.0), up)

rows_up : (rows : List LabRow) → IsAscending RowNotAfter (sort_by by_lab rows)
rows_up [] = tt
rows_up (row ∷ rows) = up_put row (sort_by by_lab rows) (rows_up rows)

codes_up : (t : Tables) → IsAscending NotAfter (codes_of t)
codes_up t = ascending-map NotAfter (λ (row : LabRow). row.code) (sort_by by_lab t.labs) (rows_up t.labs)

up_behind : (before : List (List ℕ)) (code : List ℕ) (after : List (List ℕ)) → IsAscending NotAfter (before ++ code ∷ after) → AllByRecursion (NotAfter code) after
up_behind [] code after up = up.0
up_behind (one ∷ before) code after up = up_behind before code after up.1

-- ---- which of the codes come before one

not_itself : (code : List ℕ) → precedes code code ≡ false
not_itself code = ap is_lt (tied_itself nat_list_cmp_total code)

not_both : (o : Ordering) → is_lt o ≡ true → is_gt (ordering_reverse o) ≡ false → ⊥
not_both Less less behind = absurd cc
not_both Equal less behind = absurd cc
not_both Greater less behind = absurd cc

not_behind : (code : List ℕ) (after : List (List ℕ)) (other : List ℕ) → AllByRecursion (NotAfter code) after → precedes other code ≡ true
    → list_any (λ one. bytes_eq one other) after ≢ true
not_behind code [] other all less any = absurd cc
not_behind code (one ∷ after) other all less any = go (bytes_eq one other) refl any (not_behind code after other all.1 less)
  where
    go : (b : Bool) → bytes_eq one other ≡ b → (b || list_any (λ one. bytes_eq one other) after) ≡ true → (list_any (λ one. bytes_eq one other) after ≢ true) → ⊥
    go true e h more =
        let here : NotAfter code other = subst (NotAfter code) (text_is one other e) all.0 in
        not_both (slice_cmp nat_cmp other code) less (sym (ap is_gt (nat_list_cmp_total.antisymm code other)) ∙ here)
    go false e h more = more h

-- those that come before it are sound where those are that stand before it
sound_before : (t : Tables) (code : List ℕ) (before after : List (List ℕ)) (other : List ℕ) → AllByRecursion (IsSoundIn t) before → AllByRecursion (NotAfter code) after
    → precedes other code ≡ true → list_any (λ one. bytes_eq one other) (before ++ code ∷ after) ≡ true → IsSoundIn t other
sound_before t code [] after other sound behind less any = go (bytes_eq code other) refl any
  where
    go : (b : Bool) → bytes_eq code other ≡ b → (b || list_any (λ one. bytes_eq one other) after) ≡ true → IsSoundIn t other
    go true e h = let same : precedes other code ≡ false = ap (λ one. precedes other one) (text_is code other e) ∙ not_itself other in absurd cc
    go false e h = absurd (not_behind code after other behind less h)
sound_before t code (one ∷ before) after other sound behind less any = go (bytes_eq one other) refl any (sound_before t code before after other sound.1 behind less)
  where
    go : (b : Bool) → bytes_eq one other ≡ b → (b || list_any (λ one. bytes_eq one other) (before ++ code ∷ after)) ≡ true
        → (list_any (λ one. bytes_eq one other) (before ++ code ∷ after) ≡ true → IsSoundIn t other) → IsSoundIn t other
    go true e h more = subst (IsSoundIn t) (text_is one other e) sound.0
    go false e h more = more h

pub lesser_sound : (t : Tables) (code : List ℕ) → IsFirstUnsound t (codes_of t) code → (other : List ℕ) → list_any (has_code other) t.labs ≡ true → precedes other code ≡ true
    → IsSoundIn t other
lesser_sound t code first other is less =
    let before = first.0 in
    let after = first.1 in
    let split : codes_of t ≡ before ++ code ∷ after = first.2 in
    sound_before t code before after other (recursion_from_All (IsSoundIn t) before first.3)
    (up_behind before code after (subst (IsAscending NotAfter) split (codes_up t))) less
    (subst (λ codes. list_any (λ one. bytes_eq one other) codes ≡ true) split (among t other is))

-- ---- the first one is the least

pub first_is_least : (t : Tables) (code : List ℕ) → IsFirstUnsound t (codes_of t) code → StopsAt t code
first_is_least t code first = record { unsound = first.4; least = λ other unsound. go other unsound (precedes other code) refl }
  where
    go : (other : List ℕ) → IsUnsoundIn t other → (b : Bool) → precedes other code ≡ b → b ≡ false
    go other unsound false e = refl
    go other unsound true e =
        let is = there other t.labs (list_any (has_code other) t.labs) refl (unsound_found t other unsound) in
        absurd (sound_or_not t other (lesser_sound t code first other is e) unsound)

pub one_least : (t : Tables) (one other : List ℕ) → StopsAt t one → StopsAt t other → one ≡ other
one_least t one other first second = go (slice_cmp nat_cmp one other) refl
  where
    go : (o : Ordering) → slice_cmp nat_cmp one other ≡ o → one ≡ other
    go Less e = let less : precedes one other ≡ true = ap is_lt e in let none = second.least one first.unsound in absurd cc
    go Equal e = exact_bytes one other e
    go Greater e =
        let less : precedes other one ≡ true = ap is_lt (nat_list_cmp_total.antisymm other one) ∙ ap (λ o. is_lt (ordering_reverse o)) e in
        let none = first.least other second.unsound in absurd cc

-- where all are sound, none is unsound
in_all : (t : Tables) (codes : List (List ℕ)) (other : List ℕ) → AllByRecursion (IsSoundIn t) codes → list_any (λ one. bytes_eq one other) codes ≡ true → IsSoundIn t other
in_all t [] other all any = absurd cc
in_all t (one ∷ codes) other all any = go (bytes_eq one other) refl any (in_all t codes other all.1)
  where
    go : (b : Bool) → bytes_eq one other ≡ b → (b || list_any (λ one. bytes_eq one other) codes) ≡ true → (list_any (λ one. bytes_eq one other) codes ≡ true → IsSoundIn t other) → IsSoundIn t other
    go true e h more = subst (IsSoundIn t) (text_is one other e) all.0
    go false e h more = more h

pub none_unsound : (t : Tables) → All (IsSoundIn t) (codes_of t) → (code : List ℕ) → ¬ IsUnsoundIn t code
none_unsound t all code unsound = sound_or_not t code (in_all t (codes_of t) code (recursion_from_All (IsSoundIn t) (codes_of t) all) (unsound_among t code unsound)) unsound
