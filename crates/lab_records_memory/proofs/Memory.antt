-- Where memory ran out, something was to be copied.
use Rattle.std.proofs.Common.{ℕ, ◌≡◌, ◌<◌, zero, suc, Bool, true, false, cond, subst, List, [], ◌∷◌, Result, Ok, Err, length, get_or, arith}
use Rattle.std.specs.Prelude.{OnErr, filter}

longer : {A : Type 0} (passes : Bool) (one : A) (rest : List A) → 0 < length rest
    → 0 < length (cond passes (one ∷ rest) rest)
longer true one rest some = omega arith
longer false one rest some = some

-- an item that passes is among those that do
pub some_pass : {A : Type 0} (p : A → Bool) (items : List A) (place : ℕ) (one : A)
    → place < length items → one ≡ get_or items place one → p one ≡ true
    → 0 < length (filter p items)
some_pass p [] place one inside here passes = absurd (omega arith)
some_pass p (first ∷ others) zero one inside here passes =
    let first_passes : p first ≡ true = subst (λ x. p x ≡ true) here passes in
    rw first_passes (omega arith)
some_pass p (first ∷ others) (suc k) one inside here passes =
    longer (p first) first (filter p others) (some_pass p others k one (omega arith) here passes)

-- what holds anyhow holds where there is an error
pub on_any : {T E P : Type 0} (r : Result T E) → P → OnErr r P
on_any (Ok value) holds = tt
on_any (Err error) holds = holds
