-- What well-kept tables say of keys, as the relations of the kit.
use Rattle.std.proofs.Common.{◌≡◌, Bool, true, false, not, ◌&&◌, List, [], ◌∷◌, refl}
use Rattle.std.specs.List.{list_all}
use Rattle.std.proofs.lemmas.Bool.{and_parts}
use Rattle.sqlite_keyed.specs.Rules.{AreApart}
use Rattle.sqlite_keyed.proofs.ListLemmas.{all_from_test, all_weaker}
use Rattle.lab_store_tables.specs.WellKept.{are_apart}

not_true : (b : Bool) → not b ≡ true → b ≡ false
not_true true h = absurd cc
not_true false h = refl

pub apart : {X : Type 0} (clash : X → X → Bool) (rows : List X) → are_apart clash rows ≡ true → AreApart clash rows
apart clash [] h = tt
apart clash (one ∷ others) h =
    let both = and_parts (list_all (λ other. not (clash one other)) others) (are_apart clash others) h in (
      all_weaker (λ other. not (clash one other) ≡ true) (λ other. clash one other ≡ false)
          (λ other no_clash. not_true (clash one other) no_clash) others (all_from_test (λ other. not (clash one other)) others both.0),
      apart clash others both.1,
    )

pub left : (a b : Bool) → (a && b) ≡ true → a ≡ true
left a b h = (and_parts a b h).0

pub right : (a b : Bool) → (a && b) ≡ true → b ≡ true
right a b h = (and_parts a b h).1

pub two : (a b c : Bool) → ((a && b) && c) ≡ true → a ≡ true
two a b c h = left a b (left (a && b) c h)

pub four : (a b c d e : Bool) → ((((a && b) && c) && d) && e) ≡ true → a ≡ true
four a b c d e h = left a b (left (a && b) c (left ((a && b) && c) d (left (((a && b) && c) && d) e h)))
