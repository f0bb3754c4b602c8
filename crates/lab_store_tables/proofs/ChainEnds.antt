-- The end of a chain of versions: what a next one amends, and the number of the last one.
use Rattle.std.proofs.Common.{◌≡◌, ◌≤◌, ◌<◌, ℕ, ◌+◌, ◌-◌, List, [], ◌∷◌, length, slice_get, Option, Some, unwrap_or, sym, ap, ◌∙◌, arith}
use Rattle.std.specs.List.{AllByRecursion}
use Rattle.sqlite_trees.specs.Tree.{IsAscending}
use Rattle.lab_records_kept.specs.declared.records.Record.{Record}
use Rattle.lab_records_kept.specs.declared.records.Version.{Version}
use Rattle.lab_records_kept.specs.Digests.{digest_of}
use Rattle.lab_records_kept.specs.Lookups.{last_of}
use Rattle.lab_store_tables.specs.Meaning.{Leaf, version_after, chained}
use Rattle.lab_store_tables.proofs.ChainWords.{digest_at_end}

-- the last of more than one is the last of those behind the first
last_behind : {A : Type 0} (first second : A) (others : List A) → last_of (first ∷ second ∷ others) ≡ last_of (second ∷ others)
last_behind first second others =
    let all : length (first ∷ second ∷ others) - 1 ≡ length (second ∷ others) = omega arith in
    let most : length (second ∷ others) - 1 ≡ length others = omega arith in
    ap (slice_get (first ∷ second ∷ others)) all ∙ sym (ap (slice_get (second ∷ others)) most)

module _ (lab : List ℕ) (kept : Record) where
  abbrev after : Option (List ℕ) → Leaf → Option (List ℕ)
  after before one = Some (digest_of lab kept (version_after kept before one))

  -- so is the last version of a chain
  chained_behind : (before : Option (List ℕ)) (one other : Leaf) (others : List Leaf)
      → last_of (chained lab kept (after before one) (other ∷ others)) ≡ last_of (chained lab kept before (one ∷ other ∷ others))
  chained_behind before one other others =
      sym (last_behind (version_after kept before one) (version_after kept (after before one) other) (chained lab kept (after (after before one) other) others))

  -- a next version would amend the last one
  pub amends_last : (before : Option (List ℕ)) (leaves : List Leaf) (last : Version) → last_of (chained lab kept before leaves) ≡ Some last
      → digest_at_end lab kept before leaves ≡ Some (digest_of lab kept last)
  amends_last before [] last is = absurd cc
  amends_last before (one ∷ []) last is = ap (λ (o : Option Version). Some (digest_of lab kept (unwrap_or o last))) is
  amends_last before (one ∷ other ∷ others) last is =
      amends_last (after before one) (other ∷ others) last (chained_behind before one other others ∙ is)

  -- numbers that rise are at the end at least as many as they are
  pub rises_to : (low : ℕ) (before : Option (List ℕ)) (leaves : List Leaf) (last : Version) → last_of (chained lab kept before leaves) ≡ Some last
      → IsAscending (λ (one other : Leaf). one.number < other.number) leaves → AllByRecursion (λ (one : Leaf). low < one.number) leaves
      → low + length leaves ≤ last.origin.number
  rises_to low before [] last is up above = absurd cc
  rises_to low before (one ∷ []) last is up above =
      let same : one.number ≡ last.origin.number = ap (λ (o : Option Version). (unwrap_or o last).origin.number) is in
      let first = above.0 in omega (arith, same, first)
  rises_to low before (one ∷ other ∷ others) last is up above =
      let more : one.number + length (other ∷ others) ≤ last.origin.number =
      rises_to one.number (after before one) (other ∷ others) last (chained_behind before one other others ∙ is) up.1 up.0 in
      let first = above.0 in omega (arith, more, first)

  -- and at most what each of them is at most
  pub stays_within : (high : ℕ) (before : Option (List ℕ)) (leaves : List Leaf) (last : Version) → last_of (chained lab kept before leaves) ≡ Some last
      → AllByRecursion (λ (one : Leaf). one.number ≤ high) leaves → last.origin.number ≤ high
  stays_within high before [] last is all = absurd cc
  stays_within high before (one ∷ []) last is all =
      let same : one.number ≡ last.origin.number = ap (λ (o : Option Version). (unwrap_or o last).origin.number) is in
      let first = all.0 in omega (arith, same, first)
  stays_within high before (one ∷ other ∷ others) last is all =
      stays_within high (after before one) (other ∷ others) last (chained_behind before one other others ∙ is) all.1
