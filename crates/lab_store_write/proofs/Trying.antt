-- What a call may try, of what the calls in it may.
use Rattle.std.proofs.Common.{◌≡◌, ℕ, ◌+◌, ◌<◌, List, ◌∷◌, ◌++◌, take, drop, length, get_or, take-append-drop, sym, ap, subst, ◌∙◌}
use Rattle.std.proofs.lemmas.List.{drop_more}
use Rattle.lab_store_tables.specs.Rows.{Tables}
use Rattle.lab_store_tables.specs.Changes.{InTurn}
use Rattle.lab_store_write.specs.Causes.{Statement, Tries}
use Rattle.lab_store_write.specs.Tried.{TriesInTurn}

-- over tables that were left as they were
pub found_first : (tries : Tries) {before mid : Tables} {tried : Statement} {at : Tables} → mid ≡ before → tries mid tried at → tries before tried at
found_first tries {tried = tried} {at = at} is it = subst (λ (t : Tables). tries t tried at) is it

-- of one item, behind those before it
pub in_turn : {A : Type 0} (step : A → Tables → Tables → Type 0) (tries : A → Tries) (xs : List A) (i : ℕ) (one : A) → one ≡ get_or xs i one → i < length xs
    → (before mid : Tables) (tried : Statement) (at : Tables) → InTurn step (take i xs) before mid → tries one mid tried at → TriesInTurn step tries xs before tried at
in_turn {A} step tries xs i one is within before mid tried at made it = record {
  before = take i xs;
  one = one;
  behind = drop (i + 1) xs;
  whole = sym (take-append-drop i xs) ∙ ap (λ (l : List A). take i xs ++ l) (drop_more xs i one within ∙ ap (λ (k : A). k ∷ drop (i + 1) xs) (sym is));
  begun = mid;
  made = made;
  next = it;
}
