-- That a test is true exactly where what it tests is so: of two tests, of all of a list, of texts and of numbers.
use Rattle.std.proofs.Common.{◌≡◌, ◌≢◌, ◌≤◌, ◌+◌, ℕ, Bool, true, false, not, ◌&&◌, ◌==◌, nat_le, List, [], ◌∷◌, Decides, refl, arith, bytes_eq}
use Rattle.std.specs.Prelude.{All}
use Rattle.std.specs.List.{list_all}
use Rattle.std.proofs.lemmas.Bool.{and_parts, and_from, eqb-true, eq-eqb}
use Rattle.std.proofs.lemmas.Bool.Decides.{nat_tests}
use Rattle.std.proofs.lemmas.List.Elements.{All-nil, All-cons, All-head, All-tail}
use Rattle.std.proofs.lemmas.Slice.Eq.{bytes_eq-Decides}
use Rattle.lab_records_kept.specs.Limits.{AreNumberedAfter}
use Rattle.lab_move_tables.specs.Private.Orders.{are_numbered_after}

pub both : {a b : Bool} {P Q : Type 0} → Decides a P → Decides b Q → Decides (a && b) (P × Q)
both {a} {b} p q = (
  λ h. let parts = and_parts a b h in (p.0 parts.0, q.0 parts.1),
  λ h. and_from a b (p.1 h.0) (q.1 h.1),
)

-- what is tested, in other words
pub as_said : {b : Bool} {P Q : Type 0} → Decides b P → (P → Q) → (Q → P) → Decides b Q
as_said d to from = (λ h. to (d.0 h), λ h. d.1 (from h))

-- of elements that have this
pub all_decided_where : {X : Type 0} (p : X → Bool) (P Q : X → Type 0) → ((x : X) → Q x → Decides (p x) (P x)) → (xs : List X) → All Q xs → Decides (list_all p xs) (All P xs)
all_decided_where p P Q d [] have = (λ h. All-nil P, λ h. refl)
all_decided_where p P Q d (x ∷ xs) have =
    let here = d x (All-head Q x xs have) in
    let more = all_decided_where p P Q d xs (All-tail Q x xs have) in (
      λ h. let parts = and_parts (p x) (list_all p xs) h in All-cons P x xs (here.0 parts.0) (more.0 parts.1),
      λ h. and_from (p x) (list_all p xs) (here.1 (All-head P x xs h)) (more.1 (All-tail P x xs h)),
    )

pub all_decided : {X : Type 0} (p : X → Bool) (P : X → Type 0) → ((x : X) → Decides (p x) (P x)) → (xs : List X) → Decides (list_all p xs) (All P xs)
all_decided p P d xs = all_decided_where p P (λ _. Unit {0}) (λ x _. d x) xs (λ k one below. tt)

pub texts_decided : (s t : List ℕ) → Decides (bytes_eq s t) (s ≡ t)
texts_decided s t = bytes_eq-Decides s t

pub not_decided : (b : Bool) → Decides (not b) (b ≡ false)
not_decided true = (λ h. absurd cc, λ h. absurd cc)
not_decided false = (λ h. refl, λ h. refl)

pub differs_decided : (s t : List ℕ) → Decides (not (bytes_eq s t)) (s ≢ t)
differs_decided s t = go (bytes_eq s t) (texts_decided s t)
  where
    go : (b : Bool) → Decides b (s ≡ t) → Decides (not b) (s ≢ t)
    go true d = (λ h. absurd cc, λ h. absurd (h (d.0 refl)))
    go false d = (λ h same. let wrong = d.1 same in cc, λ h. refl)

pub at_most_decided : (a b : ℕ) → Decides (nat_le a b) (a ≤ b)
at_most_decided a b = (λ h. grind (arith, nat_tests, h), λ h. grind (arith, nat_tests, h))

pub equal_decided : (a b : ℕ) → Decides (a == b) (a ≡ b)
equal_decided a b = (λ h. eqb-true a b h, λ h. eq-eqb a b h)

pub numbered_decided : {A : Type 0} (number : A → ℕ) (before : ℕ) (list : List A) → Decides (are_numbered_after number before list) (AreNumberedAfter number before list)
numbered_decided number before [] = (λ h. tt, λ h. refl)
numbered_decided number before (one ∷ others) = both (equal_decided (number one) (before + 1)) (numbered_decided number (before + 1) others)
