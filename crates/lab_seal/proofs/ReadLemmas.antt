-- Numbers, and the item at the front of a text, are read exactly: what was written is read back, and what is read was written.
use Rattle.std.proofs.Common.{◌≡◌, ◌≢◌, ℕ, suc, ◌+◌, ◌*◌, ◌/◌, ◌%◌, ◌<◌, ◌≤◌, ◌^◌, Bool, true, false, List, [], ◌∷◌, ◌++◌, length, take, drop, Option, Some, None, Result, Ok, Err, ◌==◌, refl, sym, ap, subst, ◌∙◌, arith, append_assoc, length-append, get_or}
use Rattle.std.specs.Prelude.{decimal, if◌then◌else◌, ◌&&◌, nat_lt, slice_index, MatchResult, option_map}
use Rattle.std.specs.List.{position}
use Rattle.std.specs.Option.{ok_or}
use Rattle.std.specs.Result.{result_ok}
use Rattle.std.specs.Str.{bytes_eq, is_utf8, IsUtf8}
use Rattle.std.specs.Str.Parse.{digits_value, ParsesUnsigned}
use Rattle.std.proofs.lemmas.Bool.{and_parts, and_from, cond-true, cond-false, lt-ltb, ltb-true, eqb-true}
use Rattle.std.proofs.lemmas.Bool.Decides.{nat_tests}
use Rattle.std.proofs.lemmas.Fmt.{decimal_digit, decimal_step, decimal_is_IsNumeral, length-decimal-le, IsAscii-decimal, parse-decimal}
use Rattle.std.proofs.lemmas.List.{take-append-drop, drop_more, get_or_at, take_at, drop_at, length-take-le}
use Rattle.std.proofs.lemmas.Slice.Eq.{bytes_eq-Decides}
use Rattle.std.proofs.lemmas.Str.{IsUtf8-from_ascii, is_utf8-from_IsUtf8, IsUtf8-from_is_utf8}
use Rattle.lab_seal_versions.specs.Versions.{item}
use Rattle.lab_seal.specs.Reading.{number_if_spelled, number_written, line_of, first_item, ◌>>=◌}
use Rattle.lab_seal.proofs.ItemLemmas.{item_text, first_colon, around_colon}

-- the steps of a reader that came to something
pub bind_some : {A B : Type 0} (o : Option A) (f : A → Option B) (y : B) → o >>= f ≡ Some y
    → (x : A) × (o ≡ Some x) × (f x ≡ Some y)
bind_some None f y e = let never : None ≡ Some y = e in absurd (cc)
bind_some (Some x) f y e = (x, refl, e)

pub when_some : {A : Type 0} (t : Bool) (x y : A) → (if t then Some x else None) ≡ Some y → (t ≡ true) × (x ≡ y)
when_some true x y e = let same : Some x ≡ Some y = e in (refl, cc)
when_some false x y e = let never : None ≡ Some y = e in absurd (cc)

pub some_same : {A : Type 0} (x y : A) → Some x ≡ Some y → x ≡ y
some_same x y e = cc

-- ---- numbers

pub number_sound : (digits : List ℕ) (n : ℕ) → number_written digits ≡ Some n → (n < 2 ^ 64) × (digits ≡ decimal n)
unfolding number_written
number_sound digits n e =
    let v : ℕ = digits_value 10 digits in
    let both = when_some (nat_lt v (2 ^ 64) && bytes_eq (decimal v) digits) v n e in
    let tests = and_parts _ _ both.0 in
    let small : v < 2 ^ 64 = ltb-true v (2 ^ 64) tests.0 in
    let same : decimal v ≡ digits = (bytes_eq-Decides (decimal v) digits).0 tests.1 in
    let is : v ≡ n = both.1 in
    (omega arith, sym same ∙ ap decimal is)

pub number_complete : (n : ℕ) → n < 2 ^ 64 → number_written (decimal n) ≡ Some n
unfolding number_written
number_complete n small =
    let value = (decimal_is_IsNumeral n small).1 in
    let test = and_from (nat_lt n (2 ^ 64)) (bytes_eq (decimal n) (decimal n)) (lt-ltb n (2 ^ 64) small)
    ((bytes_eq-Decides (decimal n) (decimal n)).1 refl) in
    ap (number_if_spelled (decimal n)) value
    ∙ cond-true (nat_lt n (2 ^ 64) && bytes_eq (decimal n) (decimal n)) (Some n) None test

pub decimal_short : (n : ℕ) → n < 2 ^ 64 → length (decimal n) < 2 ^ 64
decimal_short n small =
    let digits : length (decimal n) ≤ 20 = length-decimal-le 20 n (omega arith) (omega arith) small in
    omega arith

-- ---- items

line_sound : (count : ℕ) (text line rest : List ℕ) → line_of count text ≡ Some (line, rest)
    → (length line ≡ count) × (text ≡ line ++ 10 ∷ rest)
unfolding line_of
line_sound count text line rest e =
    let test : Bool = nat_lt count (length text) && slice_index text count == 10 in
    let both = when_some test (take count text, drop (count + 1) text) (line, rest) e in
    let tests = and_parts _ _ both.0 in
    let within : count < length text = ltb-true count (length text) tests.0 in
    let feed : get_or text count 0 ≡ 10 = eqb-true _ _ tests.1 in
    let front : take count text ≡ line = ap (λ (p : List ℕ × List ℕ). p.0) both.1 in
    let back : drop (count + 1) text ≡ rest = ap (λ (p : List ℕ × List ℕ). p.1) both.1 in
    let whole : text ≡ take count text ++ 10 ∷ drop (count + 1) text =
    sym (take-append-drop count text)
    ∙ ap (λ l. take count text ++ l) (drop_more text count 0 within)
    ∙ ap (λ b. take count text ++ b ∷ drop (count + 1) text) feed in
    let size : length (take count text) ≡ count = length-take-le count text (omega arith) in (
      sym (ap length front) ∙ size,
      whole ∙ ap (λ l. l ++ 10 ∷ drop (count + 1) text) front ∙ ap (λ l. line ++ 10 ∷ l) back,
    )

line_complete : (line rest : List ℕ) → line_of (length line) (line ++ 10 ∷ rest) ≡ Some (line, rest)
unfolding line_of
line_complete line rest =
    let text : List ℕ = line ++ 10 ∷ rest in
    let count : ℕ = length line in
    let within : count < length text = omega (arith, length-append line (10 ∷ rest)) in
    let feed : get_or text count 0 ≡ 10 = get_or_at line 10 rest 0 count refl in
    let is_feed : (get_or text count 0 == 10) ≡ true = ap (λ b. b == 10) feed in
    let test = and_from _ _ (lt-ltb count (length text) within) is_feed in
    let front : take count text ≡ line = take_at line (10 ∷ rest) count refl in
    let next : length (line ++ 10 ∷ []) ≡ count + 1 = length-append line (10 ∷ []) in
    let back : drop (count + 1) text ≡ rest =
    ap (drop (count + 1)) (sym (append_assoc line (10 ∷ []) rest)) ∙ drop_at (line ++ 10 ∷ []) rest (count + 1) next in
    cond-true (nat_lt count (length text) && slice_index text count == 10) (Some (take count text, drop (count + 1) text)) None test
    ∙ (λ i. Some (front i, back i))

pub item_sound : (text bytes rest : List ℕ) → first_item text ≡ Some (bytes, rest)
    → (length bytes < 2 ^ 64) × (text ≡ item bytes ++ rest)
unfolding first_item
item_sound text bytes rest e =
    let at = bind_some (position (λ byte. byte == 58) text) _ (bytes, rest) e in
    let colon : ℕ = at.0 in
    let told = bind_some (number_written (take colon text)) _ (bytes, rest) at.2 in
    let count : ℕ = told.0 in
    let number = number_sound (take colon text) count told.1 in
    let line = line_sound count (drop (colon + 1) text) bytes rest told.2 in
    let size : length bytes ≡ count = line.0 in
    let small : count < 2 ^ 64 = number.0 in
    let next : suc colon ≡ colon + 1 = omega arith in (
      omega arith,
      around_colon text colon at.1
          ∙ ap (λ l. l ++ 58 ∷ drop (suc colon) text) number.1
          ∙ ap (λ n. decimal count ++ 58 ∷ drop n text) next
          ∙ ap (λ l. decimal count ++ 58 ∷ l) line.1
          ∙ ap (λ n. decimal n ++ 58 ∷ (bytes ++ 10 ∷ rest)) (sym size)
          ∙ sym (item_text bytes rest),
    )

pub item_complete : (bytes rest : List ℕ) → length bytes < 2 ^ 64 → first_item (item bytes ++ rest) ≡ Some (bytes, rest)
unfolding first_item
item_complete bytes rest small =
    let ds : List ℕ = decimal (length bytes) in
    let text : List ℕ = ds ++ 58 ∷ (bytes ++ 10 ∷ rest) in
    let whole : item bytes ++ rest ≡ text = item_text bytes rest in
    let at : position (λ byte. byte == 58) text ≡ Some (length ds) =
    first_colon ds (bytes ++ 10 ∷ rest) (decimal_is_IsNumeral (length bytes) small).0.1 in
    let front : take (length ds) text ≡ ds = take_at ds (58 ∷ (bytes ++ 10 ∷ rest)) (length ds) refl in
    let next : length (ds ++ 58 ∷ []) ≡ length ds + 1 = length-append ds (58 ∷ []) in
    let back : drop (length ds + 1) text ≡ bytes ++ 10 ∷ rest =
    ap (drop (length ds + 1)) (sym (append_assoc ds (58 ∷ []) (bytes ++ 10 ∷ rest)))
    ∙ drop_at (ds ++ 58 ∷ []) (bytes ++ 10 ∷ rest) (length ds + 1) next in
    let after : List ℕ → ℕ → Option (List ℕ × List ℕ) =
    λ (t : List ℕ) (colon : ℕ). number_written (take colon t) >>= (λ count. line_of count (drop (colon + 1) t)) in
    ap (λ t. position (λ byte. byte == 58) t >>= after t) whole
    ∙ ap (λ o. o >>= after text) at
    ∙ ap (λ l. number_written l >>= (λ count. line_of count (drop (length ds + 1) text))) front
    ∙ ap (λ o. o >>= (λ count. line_of count (drop (length ds + 1) text))) (number_complete (length bytes) small)
    ∙ ap (line_of (length bytes)) back
    ∙ line_complete bytes rest

-- ---- what the code's steps come to

-- what a result that was made an option says
pub ok_said : {T E : Type 0} (P : T → Type 0) (Q : E → Type 0) (r : Result T E) (x : T) → result_ok r ≡ Some x
    → MatchResult r P Q → P x
ok_said P Q (Ok y) x e h = let same : Some y ≡ Some x = e in let is : y ≡ x = cc in subst P is h
ok_said P Q (Err y) x e h = let never : None ≡ Some x = e in absurd (cc)

pub err_said : {T E : Type 0} (P : T → Type 0) (Q : E → Type 0) (r : Result T E) → result_ok r ≡ None
    → MatchResult r P Q → (y : E) × Q y
err_said P Q (Ok x) e h = let never : Some x ≡ None = e in absurd (cc)
err_said P Q (Err y) e h = (y, h)

-- ---- numbers

-- digits that are those of no number
pub number_none : (digits : List ℕ) → ((n : ℕ) → n < 2 ^ 64 → digits ≢ decimal n) → number_written digits ≡ None
number_none digits none = by (number_written digits) refl
  where
    by : (o : Option ℕ) → number_written digits ≡ o → number_written digits ≡ None
    by None e = e
    by (Some n) e = let told = number_sound digits n e in absurd (none n told.0 told.1)

-- the digits of a number are text
pub decimal_utf8 : (n : ℕ) → n < 2 ^ 64 → IsUtf8 (decimal n)
decimal_utf8 n small = IsUtf8-from_ascii (decimal n) (IsAscii-decimal n small)

pub number_not_text : (digits : List ℕ) → (IsUtf8 digits → ⊥) → number_written digits ≡ None
number_not_text digits unfit =
    number_none digits (λ n small e. let P : List ℕ → Type 0 = λ l. IsUtf8 l in unfit (subst P (sym e) (decimal_utf8 n small)))

-- what the parser of numbers makes of the digits of one
pub number_unparsed : {E : Type 0} (digits text : List ℕ) (r : Result ℕ E) → text ≡ digits → ParsesUnsigned 64 10 text r
    → result_ok r ≡ None → number_written digits ≡ None
number_unparsed {E} digits text r same parses e =
    number_none digits (λ n small at.
    let read : r ≡ Ok n = parse-decimal 64 n text r small small (same ∙ at) parses in
    let never : Some n ≡ None = sym (ap result_ok read) ∙ e in
    absurd (cc))

pub number_other : {E : Type 0} (digits text printed : List ℕ) (r : Result ℕ E) (value : ℕ) → text ≡ digits
    → ParsesUnsigned 64 10 text r → result_ok r ≡ Some value → printed ≡ decimal value → bytes_eq printed digits ≡ false
    → number_written digits ≡ None
number_other {E} digits text printed r value same parses e prints differs =
    number_none digits (λ n small at.
    let read : r ≡ Ok n = parse-decimal 64 n text r small small (same ∙ at) parses in
    let found : Some n ≡ Some value = sym (ap result_ok read) ∙ e in
    let is : n ≡ value = cc in
    let equal : bytes_eq printed digits ≡ true =
    (bytes_eq-Decides printed digits).1 (prints ∙ sym (ap decimal is) ∙ sym at) in
    let never : true ≡ false = sym equal ∙ differs in
    absurd (cc))

pub number_read : (digits printed : List ℕ) (value : ℕ) → value < 2 ^ 64 → printed ≡ decimal value
    → bytes_eq printed digits ≡ true → number_written digits ≡ Some value
number_read digits printed value small prints equal =
    let same : printed ≡ digits = (bytes_eq-Decides printed digits).0 equal in
    ap number_written (sym same ∙ prints) ∙ number_complete value small

-- digits that are read by themselves
pub one_digit : (digits : List ℕ) (n : ℕ) → 1 ≤ length digits → length digits < 2 → 48 + n ≡ get_or digits 0 0 → n < 10
    → Some n ≡ number_written digits
one_digit [] n least most is small = absurd (grind (arith, nat_tests))
one_digit (only ∷ []) n least most is small =
    let spelled : decimal n ≡ only ∷ [] = decimal_digit n small ∙ ap (λ d. d ∷ []) is in
    sym (ap number_written (sym spelled) ∙ number_complete n (omega arith))
one_digit (only ∷ other ∷ more) n least most is small = absurd (grind (arith, nat_tests))

two_spelled : (tens ones m n : ℕ) → 48 + m ≡ tens → 48 + n ≡ ones → 0 < m → m < 10 → n < 10
    → decimal (10 * m + n) ≡ tens ∷ ones ∷ []
two_spelled tens ones m n is_tens is_ones some small_tens small_ones =
    let k : ℕ = 10 * m + n in
    let front : k / 10 ≡ m = omega arith in
    let back : 48 + k % 10 ≡ ones = omega arith in
    decimal_step k (omega arith) (omega arith) ∙ ap (λ d. decimal (k / 10) ++ d ∷ []) back
    ∙ ap (λ q. decimal q ++ ones ∷ []) front ∙ ap (λ l. l ++ ones ∷ []) (decimal_digit m small_tens)
    ∙ ap (λ d. d ∷ ones ∷ []) is_tens

pub two_digits : (digits : List ℕ) (m n : ℕ) → 2 ≤ length digits → length digits < 3 → 48 + m ≡ get_or digits 0 0
    → 48 + n ≡ get_or digits 1 0 → 0 < m → m < 10 → n < 10 → Some (10 * m + n) ≡ number_written digits
two_digits [] m n least most is_tens is_ones some small_tens small_ones = absurd (grind (arith, nat_tests))
two_digits (only ∷ []) m n least most is_tens is_ones some small_tens small_ones = absurd (grind (arith, nat_tests))
two_digits (tens ∷ ones ∷ []) m n least most is_tens is_ones some small_tens small_ones =
    let spelled = two_spelled tens ones m n is_tens is_ones some small_tens small_ones in
    sym (ap number_written (sym spelled) ∙ number_complete (10 * m + n) (omega arith))
two_digits (tens ∷ ones ∷ other ∷ more) m n least most is_tens is_ones some small_tens small_ones =
    absurd (grind (arith, nat_tests))

-- bytes that are text
pub read_as_text : {E : Type 0} {T : Type 0} (now : T → List ℕ) (bytes : List ℕ) (r : Result T E) (Q : E → Type 0)
    → MatchResult r (λ text. (now text ≡ bytes) × IsUtf8 bytes) (λ e. (IsUtf8 bytes → ⊥) × Q e)
    → option_map now (result_ok r) ≡ (if is_utf8 bytes then Some bytes else None)
read_as_text now bytes (Ok text) Q h =
    ap Some h.0 ∙ sym (cond-true (is_utf8 bytes) (Some bytes) None (is_utf8-from_IsUtf8 bytes h.1))
read_as_text now bytes (Err e) Q h = by (is_utf8 bytes) refl
  where
    by : (t : Bool) → is_utf8 bytes ≡ t → None ≡ (if is_utf8 bytes then Some bytes else None)
    by true is = absurd (h.0 (IsUtf8-from_is_utf8 bytes is))
    by false is = sym (cond-false (is_utf8 bytes) (Some bytes) None is)

pub ok_again : {T E : Type 0} (o : Option T) (e : E) → result_ok (ok_or o e) ≡ o
ok_again None e = refl
ok_again (Some x) e = refl

pub missing : {T E : Type 0} (o : Option T) (e f : E) → Err f ≡ ok_or o e → (o ≡ None) × (f ≡ e)
missing None e f h = (refl, cc h)
missing (Some x) e f h = absurd (cc h)

pub found : {T E : Type 0} (o : Option T) (e : E) (x : T) → Ok x ≡ ok_or o e → o ≡ Some x
found None e x h = absurd (cc h)
found (Some y) e x h = cc h
