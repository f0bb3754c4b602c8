-- How a walk over a router's rows goes on: by the bytes of a word, and by a parameter, which takes a segment.
use Rattle.std.proofs.Common.{◌≡◌, ℕ, zero, suc, ◌-◌, ◌<◌, List, [], ◌∷◌, ◌++◌, length, drop, Option, Some, None, Bool, true, false, cond, refl, sym, ap, ◌∙◌, arith, nat_eq, ◌==◌, ltb, ◌&&◌, length-append}
use Rattle.std.specs.Prelude.{⊤}
use Rattle.std.proofs.lemmas.Bool.Decides.{nat_tests}
use Rattle.std.proofs.lemmas.Bool.{false≢true}
use Rattle.std.specs.List.{ends_with}
use Rattle.std.specs.Cmp.Lexicographic.{pointwise, bytes_decides}
use Rattle.matchit.specs.Rows.{RowsOf, param_token, catch_all_token}
use Rattle.matchit.specs.Seek.{seek, own, step, or_else, param_step, has_slash, segment, cuts, with_suffix, longest_suffix, longest_from, same_text}

-- ---- segments

-- a text without a slash, and a slash behind it
pub segment_clean : (w more : List ℕ) → has_slash w ≡ false → segment (w ++ 47 ∷ more) ≡ w ++ 47 ∷ []
segment_clean [] more clean = refl
segment_clean (b ∷ w) more clean = by (b == 47) clean (segment_clean w more)
  where
    by : (v : Bool) → cond v true (has_slash w) ≡ false → (has_slash w ≡ false → segment (w ++ 47 ∷ more) ≡ w ++ 47 ∷ [])
        → cond v (b ∷ []) (b ∷ segment (w ++ 47 ∷ more)) ≡ b ∷ w ++ 47 ∷ []
    by true c rest = absurd (false≢true (sym c))
    by false c rest = ap (λ l. b ∷ l) (rest c)

pub segment_all : (w : List ℕ) → has_slash w ≡ false → segment w ≡ w
segment_all [] clean = refl
segment_all (b ∷ w) clean = by (b == 47) clean (segment_all w)
  where
    by : (v : Bool) → cond v true (has_slash w) ≡ false → (has_slash w ≡ false → segment w ≡ w) → cond v (b ∷ []) (b ∷ segment w) ≡ b ∷ w
    by true c rest = absurd (false≢true (sym c))
    by false c rest = ap (λ l. b ∷ l) (rest c)

drop_clean : (k : ℕ) (w : List ℕ) → has_slash w ≡ false → has_slash (drop k w) ≡ false
drop_clean zero w clean = clean
drop_clean (suc k) [] clean = refl
drop_clean (suc k) (b ∷ w) clean = by (b == 47) clean (drop_clean k w)
  where
    by : (v : Bool) → cond v true (has_slash w) ≡ false → (has_slash w ≡ false → has_slash (drop k w) ≡ false) → has_slash (drop k w) ≡ false
    by true c rest = absurd (false≢true (sym c))
    by false c rest = rest c

-- a slash ends no text without one
ends_clean : (w : List ℕ) → has_slash w ≡ false → ends_with nat_eq w (47 ∷ []) ≡ false
ends_clean w clean = by (ends_with nat_eq w (47 ∷ [])) refl
  where
    by : (v : Bool) → ends_with nat_eq w (47 ∷ []) ≡ v → ends_with nat_eq w (47 ∷ []) ≡ false
    by true e =
        let same : (47 ∷ []) ≡ drop (length w - 1) w = (bytes_decides (47 ∷ []) (drop (length w - 1) w)).0 e in
        absurd (false≢true (sym (drop_clean (length w - 1) w clean) ∙ ap has_slash (sym same)))
    by false e = e

drop_front : (w more : List ℕ) → drop (length w) (w ++ more) ≡ more
drop_front [] more = refl
drop_front (b ∷ w) more = drop_front w more

long : (w : List ℕ) → length (w ++ 47 ∷ []) - 1 ≡ length w
long w = omega (arith, length-append w (47 ∷ []))

ends_cut : (w : List ℕ) → ends_with nat_eq (w ++ 47 ∷ []) (47 ∷ []) ≡ true
ends_cut w =
    ap (λ k. pointwise nat_eq (47 ∷ []) (drop k (w ++ 47 ∷ []))) (long w) ∙ ap (pointwise nat_eq (47 ∷ [])) (drop_front w (47 ∷ []))

-- ---- small facts

and_first : (a b : Bool) → (a && b) ≡ true → a ≡ true
and_first true b is = refl
and_first false b is = is

both : (a b : Bool) → a ≡ true → b ≡ true → (a && b) ≡ true
both true b is is_too = is_too
both false b is is_too = is

and_last : (a b : Bool) → (a && b) ≡ true → b ≡ true
and_last true b is = is
and_last false b is = absurd (cc)

one_less : (n : ℕ) → suc n - 1 ≡ n
one_less n = omega arith

-- a slash cuts a text off, where it ends it
cuts_slash : (b : ℕ) (w : List ℕ) → cuts (b ∷ w ++ 47 ∷ []) (47 ∷ []) ≡ true
cuts_slash b w =
    let size = length-append w (47 ∷ []) in
    let more : ltb 1 (length (b ∷ w ++ 47 ∷ [])) ≡ true = grind (arith, nat_tests, size) in
    both _ _ more (ends_cut (b ∷ w))

cuts_none : (w : List ℕ) → has_slash w ≡ false → cuts w (47 ∷ []) ≡ false
cuts_none w clean = by (ltb 1 (length w))
  where
    by : (v : Bool) → (v && ends_with nat_eq w (47 ∷ [])) ≡ false
    by true = ends_clean w clean
    by false = refl

no_param_byte : (b : ℕ) → b < 256 → (param_token == b) ≡ false
no_param_byte b low = grind (arith, nat_tests)

-- ---- walks

module _ {K : Type 0} where
  param_empty : (path : List ℕ) → (param_step {K = K} [] path).1 ≡ []
  unfolding param_step
  param_empty path =
      elim (has_slash path) as (λ v. (cond {A = ℕ × RowsOf K} v (0, []) (length path, [])).1 ≡ []) [
        | true ↦ refl
        | false ↦ refl
      ]

  or_none : (found : Option K) → or_else found None ≡ found
  or_none None = refl
  or_none (Some key) = refl

  -- by a byte, by what a parameter has taken, or by the rest
  abbrev going : RowsOf K → ℕ × RowsOf K → RowsOf K → List ℕ → Option K
  going one taken rest path = or_else (seek 0 one path) (or_else (seek (taken.0 - 1) taken.1 path) (own rest))

  seek_empty : (k : ℕ) (path : List ℕ) → seek {K = K} k [] path ≡ None
  unfolding seek
  seek_empty k [] = refl
  seek_empty (suc k) (b ∷ path) = seek_empty k path
  seek_empty zero (b ∷ path) =
      simp (seek_empty 0 path, param_empty (b ∷ path), seek_empty (((param_step {K = K} [] (b ∷ path)).0) - 1) path)

  no_taking : (b : ℕ) (path : List ℕ)
      → or_else (seek ((param_step {K = K} [] (b ∷ path)).0 - 1) (param_step {K = K} [] (b ∷ path)).1 path) None ≡ None
  no_taking b path =
      or_none _ ∙ ap (λ r. seek ((param_step {K = K} [] (b ∷ path)).0 - 1) r path) (param_empty (b ∷ path))
      ∙ seek_empty ((param_step {K = K} [] (b ∷ path)).0 - 1) path

  -- ---- by a word

  by_byte : (b : ℕ) (rows : RowsOf K) (path : List ℕ) → step param_token rows ≡ [] → step catch_all_token rows ≡ []
      → seek 0 rows (b ∷ path) ≡ seek 0 (step b rows) path
  unfolding seek
  by_byte b rows path no_param no_rest =
      ap (λ r. going (step b rows) (param_step r (b ∷ path)) (step catch_all_token rows) path) no_param
      ∙ ap (λ r. going (step b rows) (param_step [] (b ∷ path)) r path) no_rest
      ∙ ap (or_else (seek 0 (step b rows) path)) (no_taking b path)
      ∙ or_none (seek 0 (step b rows) path)

  -- the rows that go on with a word, with it gone
  abbrev pub after : List ℕ → RowsOf K → RowsOf K
  after [] rows = rows
  after (b ∷ word) rows = after word (step b rows)

  abbrev pub is_none_left : RowsOf K → Bool
  is_none_left [] = true
  is_none_left (row ∷ rows) = false

  none_left : (rows : RowsOf K) → is_none_left rows ≡ true → rows ≡ []
  none_left [] is = refl
  none_left (row ∷ rows) is = absurd (false≢true is)

  -- no row has a parameter within the word
  abbrev pub is_plain : List ℕ → RowsOf K → Bool
  is_plain [] rows = true
  is_plain (b ∷ word) rows =
      is_none_left (step param_token rows) && (is_none_left (step catch_all_token rows) && is_plain word (step b rows))

  pub by_word : (word : List ℕ) (rows : RowsOf K) (path : List ℕ) → is_plain word rows ≡ true
      → seek 0 rows (word ++ path) ≡ seek 0 (after word rows) path
  by_word [] rows path plain = refl
  by_word (b ∷ word) rows path plain =
      let more = and_last (is_none_left (step param_token rows)) _ plain in
      by_byte b rows (word ++ path) (none_left _ (and_first _ _ plain)) (none_left _ (and_first _ _ more))
      ∙ by_word word (step b rows) path (and_last _ _ more)

  -- ---- by a parameter

  skip : (w path : List ℕ) (rows : RowsOf K) → seek (length w) rows (w ++ path) ≡ seek 0 rows path
  unfolding seek
  skip [] path rows = refl
  skip (b ∷ w) [] rows = skip w [] rows
  skip (b ∷ w) (c ∷ path) rows = skip w (c ∷ path) rows

  -- where each row goes on with a parameter alone
  by_param : (b : ℕ) (w path : List ℕ) (rows on left : RowsOf K) → step b rows ≡ [] → step catch_all_token rows ≡ []
      → step param_token rows ≡ on → param_step on (b ∷ w ++ path) ≡ (length (b ∷ w), left)
      → seek 0 rows (b ∷ w ++ path) ≡ seek 0 left path
  unfolding seek
  by_param b w path rows on left no_byte no_rest is takes =
      ap (λ r. going r (param_step (step param_token rows) (b ∷ w ++ path)) (step catch_all_token rows) (w ++ path)) no_byte
      ∙ ap (λ r. going [] (param_step r (b ∷ w ++ path)) (step catch_all_token rows) (w ++ path)) is
      ∙ ap (λ p. going [] p (step catch_all_token rows) (w ++ path)) takes
      ∙ ap (λ r. going [] (length (b ∷ w), left) r (w ++ path)) no_rest
      ∙ ap (λ o. or_else o (or_else (seek (length (b ∷ w) - 1) left (w ++ path)) None)) (seek_empty 0 (w ++ path))
      ∙ or_none (seek (length (b ∷ w) - 1) left (w ++ path))
      ∙ ap (λ k. seek k left (w ++ path)) (one_less (length w))
      ∙ skip w path left

  skip_all : (w : List ℕ) (rows : RowsOf K) → seek (length w) rows w ≡ own rows
  unfolding seek
  skip_all [] rows = refl
  skip_all (b ∷ w) rows = skip_all w rows

  -- and it is the last
  by_last : (b : ℕ) (w : List ℕ) (rows on left : RowsOf K) → step b rows ≡ [] → step catch_all_token rows ≡ []
      → step param_token rows ≡ on → param_step on (b ∷ w) ≡ (length (b ∷ w), left)
      → seek 0 rows (b ∷ w) ≡ own left
  unfolding seek
  by_last b w rows on left no_byte no_rest is takes =
      ap (λ r. going r (param_step (step param_token rows) (b ∷ w)) (step catch_all_token rows) w) no_byte
      ∙ ap (λ r. going [] (param_step r (b ∷ w)) (step catch_all_token rows) w) is
      ∙ ap (λ p. going [] p (step catch_all_token rows) w) takes
      ∙ ap (λ r. going [] (length (b ∷ w), left) r w) no_rest
      ∙ ap (λ o. or_else o (or_else (seek (length (b ∷ w) - 1) left w) None)) (seek_empty 0 w)
      ∙ or_none (seek (length (b ∷ w) - 1) left w)
      ∙ ap (λ k. seek k left w) (one_less (length w))
      ∙ skip_all w left

  -- what ends there, and what ends behind a parameter
  abbrev pub ending : Option K → RowsOf K
  ending None = []
  ending (Some key) = ([], key) ∷ []

  abbrev pub param_ending : Option K → RowsOf K
  param_ending None = []
  param_ending (Some key) = (param_token ∷ [], key) ∷ []

  -- what a parameter takes of a path whose first segment ends with a slash, or not
  abbrev taking : List ℕ → K → Option K → List ℕ → List ℕ → Bool → ℕ × RowsOf K
  taking t key end path seg slashed =
      cond (ltb 0 (length (longest_from seg (cond slashed (47 ∷ []) []) (ending end)))) (
        length seg - length (longest_from seg (cond slashed (47 ∷ []) []) (ending end)),
        with_suffix (longest_from seg (cond slashed (47 ∷ []) []) (ending end)) ((47 ∷ t, key) ∷ ending end),
      )
      (cond (has_slash path) (0, []) (length path, (47 ∷ t, key) ∷ ending end))

  -- it takes what stands before a slash, where a row goes on with one
  takes_before : (b : ℕ) (w more t : List ℕ) (key : K) (end : Option K) → has_slash (b ∷ w) ≡ false
      → param_step ((47 ∷ t, key) ∷ ending end) (b ∷ w ++ 47 ∷ more) ≡ (length (b ∷ w), (47 ∷ t, key) ∷ [])
  unfolding param_step
  takes_before b w more t key None clean =
      ap (λ seg. taking t key None (b ∷ w ++ 47 ∷ more) seg (cuts seg (47 ∷ []))) (segment_clean (b ∷ w) more clean)
      ∙ ap (taking t key None (b ∷ w ++ 47 ∷ more) (b ∷ w ++ 47 ∷ [])) (cuts_slash b w)
      ∙ ap (λ (n : ℕ). (n, (47 ∷ t, key) ∷ [])) (long (b ∷ w))
  takes_before b w more t key (Some end) clean =
      ap (λ seg. taking t key (Some end) (b ∷ w ++ 47 ∷ more) seg (cuts seg (47 ∷ []))) (segment_clean (b ∷ w) more clean)
      ∙ ap (taking t key (Some end) (b ∷ w ++ 47 ∷ more) (b ∷ w ++ 47 ∷ [])) (cuts_slash b w)
      ∙ ap (λ (n : ℕ). (n, (47 ∷ t, key) ∷ [])) (long (b ∷ w))

  -- and all where none follows
  takes_rest : (b : ℕ) (w t : List ℕ) (key end : K) → has_slash (b ∷ w) ≡ false
      → param_step ((47 ∷ t, key) ∷ ([], end) ∷ []) (b ∷ w) ≡ (length (b ∷ w), (47 ∷ t, key) ∷ ([], end) ∷ [])
  unfolding param_step
  takes_rest b w t key end clean =
      ap (λ seg. taking t key (Some end) (b ∷ w) seg (cuts seg (47 ∷ []))) (segment_all (b ∷ w) clean)
      ∙ ap (taking t key (Some end) (b ∷ w) (b ∷ w)) (cuts_none (b ∷ w) clean)
      ∙ ap (λ v. cond {A = ℕ × RowsOf K} v (0, []) (length (b ∷ w), (47 ∷ t, key) ∷ ([], end) ∷ [])) clean

  takes_end : (b : ℕ) (w : List ℕ) (end : K) → has_slash (b ∷ w) ≡ false
      → param_step (([], end) ∷ []) (b ∷ w) ≡ (length (b ∷ w), ([], end) ∷ [])
  unfolding param_step
  takes_end b w end clean = ap (λ v. cond {A = ℕ × RowsOf K} v (0, []) (length (b ∷ w), ([], end) ∷ [])) clean

  -- no byte is a parameter
  off : (b : ℕ) (t : List ℕ) (key : K) (rows : RowsOf K) → b < 256 → step b ((param_token ∷ t, key) ∷ rows) ≡ step b rows
  off b t key rows low = ap (λ v. cond v ((t, key) ∷ step b rows) (step b rows)) (no_param_byte b low)

  -- a segment is taken, and a slash goes on
  pub goes_on : (b : ℕ) (w more t : List ℕ) (key : K) (end : Option K) → b < 256 → has_slash (b ∷ w) ≡ false
      → seek 0 ((param_token ∷ 47 ∷ t, key) ∷ param_ending end) (b ∷ w ++ 47 ∷ more) ≡ seek 0 ((t, key) ∷ []) more
  goes_on b w more t key None low clean =
      by_param b w (47 ∷ more) ((param_token ∷ 47 ∷ t, key) ∷ []) ((47 ∷ t, key) ∷ []) ((47 ∷ t, key) ∷ [])
      (off b (47 ∷ t) key [] low) refl refl (takes_before b w more t key None clean)
      ∙ by_byte 47 ((47 ∷ t, key) ∷ []) more refl refl
  goes_on b w more t key (Some end) low clean =
      by_param b w (47 ∷ more) ((param_token ∷ 47 ∷ t, key) ∷ (param_token ∷ [], end) ∷ []) ((47 ∷ t, key) ∷ ([], end) ∷ []) ((47 ∷ t, key) ∷ [])
      (off b (47 ∷ t) key ((param_token ∷ [], end) ∷ []) low ∙ off b [] end [] low) refl refl (takes_before b w more t key (Some end) clean)
      ∙ by_byte 47 ((47 ∷ t, key) ∷ []) more refl refl

  -- the last segment is taken, where another row would go on
  pub ends_first : (b : ℕ) (w t : List ℕ) (key end : K) → b < 256 → has_slash (b ∷ w) ≡ false
      → seek 0 ((param_token ∷ 47 ∷ t, key) ∷ (param_token ∷ [], end) ∷ []) (b ∷ w) ≡ Some end
  ends_first b w t key end low clean =
      by_last b w ((param_token ∷ 47 ∷ t, key) ∷ (param_token ∷ [], end) ∷ []) ((47 ∷ t, key) ∷ ([], end) ∷ []) ((47 ∷ t, key) ∷ ([], end) ∷ [])
      (off b (47 ∷ t) key ((param_token ∷ [], end) ∷ []) low ∙ off b [] end [] low) refl refl (takes_rest b w t key end clean)

  -- and where none would
  pub ends_last : (b : ℕ) (w : List ℕ) (end : K) → b < 256 → has_slash (b ∷ w) ≡ false
      → seek 0 ((param_token ∷ [], end) ∷ []) (b ∷ w) ≡ Some end
  ends_last b w end low clean =
      by_last b w ((param_token ∷ [], end) ∷ []) (([], end) ∷ []) (([], end) ∷ [])
      (off b [] end [] low) refl refl (takes_end b w end clean)

  -- ---- what is found is one of the rows

  abbrev pub Of : (K → Type 0) → RowsOf K → Type 0
  Of Q [] = ⊤
  Of Q ((t, key) ∷ rows) = Q key × Of Q rows

  abbrev pub OfFound : (K → Type 0) → Option K → Type 0
  OfFound Q None = ⊤
  OfFound Q (Some key) = Q key

  own_of : (Q : K → Type 0) (rows : RowsOf K) → Of Q rows → OfFound Q (own rows)
  own_of Q [] each = tt
  own_of Q (([], key) ∷ rows) each = each.0
  own_of Q ((b ∷ t, key) ∷ rows) each = own_of Q rows each.1

  step_of : (Q : K → Type 0) (b : ℕ) (rows : RowsOf K) → Of Q rows → Of Q (step b rows)
  step_of Q b [] each = tt
  step_of Q b (([], key) ∷ rows) each = step_of Q b rows each.1
  step_of Q b ((c ∷ t, key) ∷ rows) each =
      elim (c == b) as (λ v. Of Q (cond v ((t, key) ∷ step b rows) (step b rows))) [
        | true ↦ (each.0, step_of Q b rows each.1)
        | false ↦ step_of Q b rows each.1
      ]

  suffix_of : (Q : K → Type 0) (suffix : List ℕ) (rows : RowsOf K) → Of Q rows → Of Q (with_suffix suffix rows)
  suffix_of Q suffix [] each = tt
  suffix_of Q suffix ((t, key) ∷ rows) each =
      elim (same_text (segment t) suffix) as (λ v. Of Q (cond v ((t, key) ∷ with_suffix suffix rows) (with_suffix suffix rows))) [
        | true ↦ (each.0, suffix_of Q suffix rows each.1)
        | false ↦ suffix_of Q suffix rows each.1
      ]

  param_of : (Q : K → Type 0) (rows : RowsOf K) (path : List ℕ) → Of Q rows → Of Q (param_step rows path).1
  unfolding param_step
  param_of Q rows path each = by (ltb 0 (length (longest_suffix (segment path) rows))) (has_slash path)
    where
      by : (v s : Bool) → Of Q (cond {A = ℕ × RowsOf K} v (
        length (segment path) - length (longest_suffix (segment path) rows),
        with_suffix (longest_suffix (segment path) rows) rows,
      )
          (cond s (0, []) (length path, rows))).1
      by true s = suffix_of Q (longest_suffix (segment path) rows) rows each
      by false true = tt
      by false false = each

  else_of : (Q : K → Type 0) (one other : Option K) → OfFound Q one → OfFound Q other → OfFound Q (or_else one other)
  else_of Q None other here there = there
  else_of Q (Some key) other here there = here

  pub seek_of : (Q : K → Type 0) (k : ℕ) (rows : RowsOf K) (path : List ℕ) → Of Q rows → OfFound Q (seek k rows path)
  unfolding seek
  seek_of Q k rows [] each = own_of Q rows each
  seek_of Q (suc k) rows (b ∷ path) each = seek_of Q k rows path each
  seek_of Q zero rows (b ∷ path) each =
      let taken : ℕ × RowsOf K = param_step (step param_token rows) (b ∷ path) in
      else_of Q (seek 0 (step b rows) path) (or_else (seek (taken.0 - 1) taken.1 path) (own (step catch_all_token rows)))
      (seek_of Q 0 (step b rows) path (step_of Q b rows each))
      (else_of Q (seek (taken.0 - 1) taken.1 path) (own (step catch_all_token rows))
      (seek_of Q (taken.0 - 1) taken.1 path (param_of Q (step param_token rows) (b ∷ path) (step_of Q param_token rows each)))
      (own_of Q (step catch_all_token rows) (step_of Q catch_all_token rows each)))

  -- a test that each row passes
  abbrev pub each_row : (K → Bool) → RowsOf K → Bool
  each_row test [] = true
  each_row test ((t, key) ∷ rows) = test key && each_row test rows

  pub of_each : (test : K → Bool) (rows : RowsOf K) → each_row test rows ≡ true → Of (λ key. test key ≡ true) rows
  of_each test [] all = tt
  of_each test ((t, key) ∷ rows) all = (and_first (test key) _ all, of_each test rows (and_last (test key) _ all))
