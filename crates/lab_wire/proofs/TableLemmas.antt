-- Two tests that hold together.
use Rattle.std.proofs.Common.{◌≡◌, Bool, true, false, refl}
use Rattle.std.specs.Prelude.{◌&&◌}

pub true_first : (a b : Bool) → (a && b) ≡ true → a ≡ true
true_first true b is = refl
true_first false b is = is

pub true_last : (a b : Bool) → (a && b) ≡ true → b ≡ true
true_last true b is = is
true_last false b is = absurd (cc)
