-- A text begins with one item at most, and where its first colon stands tells which.
use Rattle.std.proofs.Common.{◌≡◌, ℕ, suc, ◌+◌, ◌<◌, Bool, true, false, cond, not, nat_lt, List, [], ◌∷◌, ◌++◌, length, take, drop, Option, Some, None, ◌==◌, refl, sym, ap, ◌∙◌, arith, append_assoc}
use Rattle.std.specs.Prelude.{decimal, option_map}
use Rattle.std.specs.Char.{digit_value}
use Rattle.std.specs.List.{position, prefix_len}
use Rattle.std.specs.Str.Parse.{AllDigits}
use Rattle.std.proofs.lemmas.Bool.{eqb-true}
use Rattle.std.proofs.lemmas.Bool.Decides.{nat_tests}
use Rattle.std.proofs.lemmas.Str.Parse.{digit_from_value}
use Rattle.lab_seal_versions.specs.Versions.{item}

-- a digit is no colon
digit_low : (c : ℕ) → digit_value c < 10 → c < 58
digit_low c h = (let range = digit_from_value c h in omega (arith, range.1))

-- an item and what follows it, with its colon and its line feed
pub item_text : (a x : List ℕ) → item a ++ x ≡ decimal (length a) ++ 58 ∷ (a ++ 10 ∷ x)
unfolding item
item_text a x = simp append_assoc

position_step : (b : Bool) (n l : ℕ)
    → cond (nat_lt (cond (not b) (1 + n) 0) (suc l)) (Some (cond (not b) (1 + n) 0)) None
    ≡ cond b (Some 0) (option_map (λ k. k + 1) (cond (nat_lt n l) (Some n) None))
position_step true n l = grind (arith, nat_tests)
position_step false n l = grind (arith, nat_tests)

position-cons : (x : ℕ) (xs : List ℕ)
    → position (λ b. b == 58) (x ∷ xs)
    ≡ cond (x == 58) (Some 0) (option_map (λ k. k + 1) (position (λ b. b == 58) xs))
position-cons x xs = position_step (x == 58) (prefix_len (λ b. not (b == 58)) xs) (length xs)

not_colon : (c : ℕ) → digit_value c < 10 → (c == 58) ≡ false
not_colon c h = let low : c < 58 = digit_low c h in grind (arith, nat_tests)

-- the first colon behind digits
pub first_colon : (ds more : List ℕ) → AllDigits 10 ds → position (λ b. b == 58) (ds ++ 58 ∷ more) ≡ Some (length ds)
first_colon [] more p = position-cons 58 more
first_colon (d ∷ ds) more p =
    let found = first_colon ds more p.1 in
    let count : length ds + 1 ≡ suc (length ds) = omega arith in
    position-cons d (ds ++ 58 ∷ more)
    ∙ ap (λ t. cond t (Some 0) (option_map (λ k. k + 1) (position (λ b. b == 58) (ds ++ 58 ∷ more)))) (not_colon d p.0)
    ∙ ap (option_map (λ k. k + 1)) found ∙ ap Some count

-- a text around its first colon
pub around_colon : (text : List ℕ) (colon : ℕ) → position (λ b. b == 58) text ≡ Some colon
    → text ≡ take colon text ++ 58 ∷ drop (suc colon) text
around_colon [] colon e = absurd (cc)
around_colon (b ∷ bs) colon e =
    by (around_colon bs) (b == 58) refl (position (λ c. c == 58) bs) refl (sym (position-cons b bs) ∙ e)
  where
    by : ((k : ℕ) → position (λ c. c == 58) bs ≡ Some k → bs ≡ take k bs ++ 58 ∷ drop (suc k) bs)
        → (t : Bool) → (b == 58) ≡ t → (o : Option ℕ) → position (λ c. c == 58) bs ≡ o
        → cond t (Some 0) (option_map (λ k. k + 1) o) ≡ Some colon
        → (b ∷ bs) ≡ take colon (b ∷ bs) ++ 58 ∷ drop (suc colon) (b ∷ bs)
    by rest true is o at e =
        let start : colon ≡ 0 = cc in
        rw start (ap (λ v. v ∷ bs) (eqb-true b 58 is))
    by rest false is None at e = let never : None ≡ Some colon = e in absurd (cc)
    by rest false is (Some k) at e =
        let next : k + 1 ≡ colon = cc in
        let step : colon ≡ suc k = omega arith in
        rw step (ap (λ l. b ∷ l) (rest k at))
