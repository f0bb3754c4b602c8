-- A version more in a chain.
use Rattle.std.proofs.Common.{◌≡◌, ℕ, ◌-◌, List, [], ◌∷◌, ◌++◌, length, Some, slice_get, option_map, true, IsTrue, refl, sym, ap, subst, ◌∙◌, append_assoc, arith}
use Rattle.std.proofs.lemmas.List.{length_push}
use Rattle.std.specs.Prelude.{is_some}
use Rattle.std.specs.List.{AllByRecursion}
use Rattle.lab_records_kept.specs.declared.records.Record.{Record}
use Rattle.lab_records_kept.specs.declared.records.Version.{Version}
use Rattle.lab_records_kept.specs.Digests.{digest_of}
use Rattle.lab_records_kept.specs.Lookups.{last_of}
use Rattle.lab_store_tables.specs.Meaning.{Leaf, version_after, chained}
use Rattle.lab_store_read_records.specs.Private.Chains.{before_next}
use Rattle.lab_store_read_records.specs.Readable.{is_placed, ArePlaced}

nth_last : {A : Type 0} (xs : List A) (x : A) → slice_get (xs ++ x ∷ []) (length xs) ≡ Some x
nth_last [] x = refl
nth_last (y ∷ xs) x = nth_last xs x

last_more : {A : Type 0} (xs : List A) (x : A) → last_of (xs ++ x ∷ []) ≡ Some x
last_more xs x =
    let one_less : length (xs ++ x ∷ []) - 1 ≡ length xs = omega (arith, length_push xs x) in
    ap (slice_get (xs ++ x ∷ [])) one_less ∙ nth_last xs x

-- the next of the versions to come stands behind those so far
pub chained_turn : (lab : List ℕ) (kept : Record) (made : List Version) (one : Leaf) (others : List Leaf) →
    (made ++ version_after kept (before_next lab kept made) one ∷ []) ++ chained lab kept (before_next lab kept (made ++ version_after kept (before_next lab kept made) one ∷ [])) others
    ≡ made ++ chained lab kept (before_next lab kept made) (one ∷ others)
chained_turn lab kept made one others =
    let new = version_after kept (before_next lab kept made) one in
    append_assoc made (new ∷ []) _ ∙ ap (λ before. made ++ new ∷ chained lab kept (option_map (digest_of lab kept) before) others) (last_more made new)

-- those behind the next stand behind another one
placed_on : (others : List Leaf) → AllByRecursion (λ (other : Leaf). IsTrue (is_placed true other.number other.reason)) others → ArePlaced true others
placed_on [] behind = tt
placed_on (one ∷ more) behind = behind

pub placed_turn : (lab : List ℕ) (kept : Record) (made more : List Version) (one : Leaf) (others : List Leaf) → more ≡ made ++ version_after kept (before_next lab kept made) one ∷ []
    → ArePlaced (is_some (before_next lab kept made)) (one ∷ others) → ArePlaced (is_some (before_next lab kept more)) others
placed_turn lab kept made more one others is placed =
    let new = version_after kept (before_next lab kept made) one in
    subst (λ behind. ArePlaced behind others)
    (sym (ap (λ (m : List Version). is_some (before_next lab kept m)) is ∙ ap (λ before. is_some (option_map (digest_of lab kept) before)) (last_more made new)))
    (placed_on others placed.1)
