-- Lists with one element more at the end.
use Rattle.std.specs.Prelude.{is_some, unwrap_or, ◌||◌, map}
use Rattle.std.proofs.lemmas.Bool.{false≢true}
use Rattle.std.proofs.Common.{◌≡◌, ◌+◌, ◌-◌, Bool, true, false, not, cond, List, [], ◌∷◌, ◌++◌, length, take, drop, Option, Some, None, refl, sym, ap, ◌∙◌, arith}
use Rattle.std.specs.List.{list_any, last_or, before_last, after_last, suffix_len, prefix_len, filter_map, cons_option}
use Rattle.std.proofs.lemmas.List.{length_push, reverse-append, take_at, take-append-le, drop-append-le, drop_all, append-nil}
use Rattle.std.proofs.lemmas.List.Elements.{filter_map-append}
use Rattle.lab_copy_rows.specs.Copies.{last_of}

last_or_push : {A : Type 0} (o : Option A) (xs : List A) (x : A) → last_or o (xs ++ (x ∷ [])) ≡ Some x
last_or_push o [] x = refl
last_or_push o (y ∷ ys) x = last_or_push (Some y) ys x

-- the last one
pub last_push : {A : Type 0} (xs : List A) (x : A) → last_of (xs ++ (x ∷ [])) ≡ Some x
last_push xs x = last_or_push None xs x

-- only the empty list has none
last_or_some : {A : Type 0} (xs : List A) (y : A) → (z : A) × (last_or (Some y) xs ≡ Some z)
last_or_some [] y = (y, refl)
last_or_some (x ∷ xs) y = last_or_some xs x

pub last_cons : {A : Type 0} (x : A) (xs : List A) → (z : A) × (last_of (x ∷ xs) ≡ Some z)
last_cons x xs = last_or_some xs x

-- ---- what a map keeps

pub keep_push : {A B : Type 0} (h : A → Option B) (xs : List A) (x : A) (y : B) → h x ≡ Some y
    → filter_map h (xs ++ (x ∷ [])) ≡ filter_map h xs ++ (y ∷ [])
keep_push h xs x y is = filter_map-append h xs (x ∷ []) ∙ ap (λ o. filter_map h xs ++ cons_option o []) is

pub skip_push : {A B : Type 0} (h : A → Option B) (xs : List A) (x : A) → h x ≡ None
    → filter_map h (xs ++ (x ∷ [])) ≡ filter_map h xs
skip_push h xs x is =
    filter_map-append h xs (x ∷ []) ∙ ap (λ o. filter_map h xs ++ cons_option o []) is ∙ append-nil (filter_map h xs)

pub some_same : {A : Type 0} (x y : A) → Some x ≡ Some y → x ≡ y
some_same x y e = ap (λ o. unwrap_or o x) e

pub never : {P : Type 0} → false ≡ true → P
never e = absurd (false≢true e)

pub no_some : {A P : Type 0} (x : A) → None ≡ Some x → P
no_some x e = never (ap is_some e)

-- the last one kept, where the last element is kept
last_kept : {A B : Type 0} (h : A → Option B) (a : Option A) (b : Option B) (xs : List A) (x : A) (y : B)
    → last_or a xs ≡ Some x → h x ≡ Some y → (a ≡ Some x → b ≡ Some y)
    → last_or b (filter_map h xs) ≡ Some y
last_kept h a b [] x y last is start = start last
last_kept {A} {B} h a b (z ∷ zs) x y last is start = by (h z) refl (λ o more. last_kept h (Some z) o zs x y last is more)
  where
    by : (o : Option B) → h z ≡ o
        → ((behind : Option B) → (Some z ≡ Some x → behind ≡ Some y) → last_or behind (filter_map h zs) ≡ Some y)
        → last_or b (cons_option (h z) (filter_map h zs)) ≡ Some y
    by None e deeper =
        ap (λ o. last_or b (cons_option o (filter_map h zs))) e
        ∙ deeper b (λ same. no_some y (sym e ∙ ap h (some_same z x same) ∙ is))
    by (Some w) e deeper =
        ap (λ o. last_or b (cons_option o (filter_map h zs))) e
        ∙ deeper (Some w) (λ same. sym e ∙ ap h (some_same z x same) ∙ is)

pub last_map : {A B : Type 0} (h : A → Option B) (xs : List A) (x : A) (y : B)
    → last_of xs ≡ Some x → h x ≡ Some y → last_of (filter_map h xs) ≡ Some y
last_map h xs x y last is = last_kept h None None xs x y last is (no_some x)

-- ---- whether one passes

pub any_of_map : {A B : Type 0} (p : B → Bool) (h : A → B) (xs : List A) → list_any (λ x. p (h x)) xs ≡ list_any p (map h xs)
any_of_map p h [] = refl
any_of_map p h (x ∷ xs) = ap (λ b. p (h x) || b) (any_of_map p h xs)

-- ---- what stands before and behind the last one that passes

suffix_push : {A : Type 0} (q : A → Bool) (xs : List A) (x : A)
    → suffix_len q (xs ++ (x ∷ [])) ≡ cond (q x) (1 + suffix_len q xs) 0
suffix_push q xs x = ap (prefix_len q) (reverse-append xs (x ∷ []))

module _ {A : Type 0} (p : A → Bool) (xs : List A) (x : A) where
  abbrev others : A → Bool
  others y = not (p y)

  module _ (here : p x ≡ true) where
    none_behind : suffix_len others (xs ++ (x ∷ [])) ≡ 0
    none_behind = suffix_push others xs x ∙ ap (λ b. cond (not b) (1 + suffix_len others xs) 0) here

    pub before_here : before_last p (xs ++ (x ∷ [])) ≡ xs
    before_here = take_at xs (x ∷ []) _ (omega (arith, none_behind, length_push xs x))

    pub after_here : after_last p (xs ++ (x ∷ [])) ≡ []
    after_here =
        let all : length (xs ++ (x ∷ [])) - suffix_len others (xs ++ (x ∷ [])) ≡ length (xs ++ (x ∷ [])) = omega (arith, none_behind) in
        ap (λ n. drop n (xs ++ (x ∷ []))) all
        ∙ drop_all (length (xs ++ (x ∷ []))) (xs ++ (x ∷ [])) (omega arith)

  module _ (past : p x ≡ false) where
    one_more : suffix_len others (xs ++ (x ∷ [])) ≡ 1 + suffix_len others xs
    one_more = suffix_push others xs x ∙ ap (λ b. cond (not b) (1 + suffix_len others xs) 0) past

    pub before_past : before_last p (xs ++ (x ∷ [])) ≡ before_last p xs
    before_past =
        let same : length (xs ++ (x ∷ [])) - suffix_len others (xs ++ (x ∷ [])) - 1 ≡ length xs - suffix_len others xs - 1 =
        omega (arith, one_more, length_push xs x) in
        ap (λ n. take n (xs ++ (x ∷ []))) same
        ∙ take-append-le (length xs - suffix_len others xs - 1) xs (x ∷ []) (omega arith)

    pub after_past : after_last p (xs ++ (x ∷ [])) ≡ after_last p xs ++ (x ∷ [])
    after_past =
        let same : length (xs ++ (x ∷ [])) - suffix_len others (xs ++ (x ∷ [])) ≡ length xs - suffix_len others xs =
        omega (arith, one_more, length_push xs x) in
        ap (λ n. drop n (xs ++ (x ∷ []))) same
        ∙ drop-append-le (length xs - suffix_len others xs) xs (x ∷ []) (omega arith)
