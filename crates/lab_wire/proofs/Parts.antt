-- How a text is cut at a mark.
use Rattle.std.proofs.Common.{◌≡◌, ◌<◌, ℕ, List, [], ◌∷◌, Bool, eqb, length, Option, Some, None, Bor, arith}
use Rattle.std.specs.List.{position_or_len, before_first, after_first, slice_split}
use Rattle.std.proofs.lemmas.List.Splits.{slice_split_none}
use Rattle.std.proofs.lemmas.List.Sums.{fails_before_first}
use Rattle.std.proofs.lemmas.Str.Pattern.{IsSplitOnceResult, split_once_first}

-- a text that no mark cuts is one part
pub one_part : (p : ℕ → Bool) (text : List ℕ) → position_or_len p text ≡ length text → slice_split p text ≡ text ∷ []
one_part p text none = slice_split_none p text (λ k d lt. fails_before_first p text k d (omega (arith, none)))

module _ (mark : ℕ) (low : mark < 128) (text : List ℕ) (r : Option (Bor (List ℕ) × Bor (List ℕ))) (split : IsSplitOnceResult mark text r) where
  pub cut_at : (front back : Bor (List ℕ)) → r ≡ Some (front, back)
      → (position_or_len (λ b. eqb b mark) text < length text)
      × (front.now ≡ before_first (λ b. eqb b mark) text) × (back.now ≡ after_first (λ b. eqb b mark) text)
  cut_at front back is = rw is at (split_once_first mark text r split low)

  pub not_cut : r ≡ None → position_or_len (λ b. eqb b mark) text ≡ length text
  not_cut is = rw is at (split_once_first mark text r split low)
