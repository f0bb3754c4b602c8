-- Loops over rows, each of which puts what its row is behind what was made before.
use Rattle.std.proofs.Common.{◌≡◌, List, [], ◌∷◌, ◌++◌, map, length, Result, Ok, Err, refl, sym, ap, ◌∙◌, append_assoc, append-nil, arith}
use Rattle.std.specs.Prelude.{IsErrAnd}
use Rattle.sqlite.specs.State.{State}
use Rattle.lab_store_tables.specs.Rows.{Tables}
use Rattle.lab_store_tables.specs.Ready.{tables_of}
use Rattle.lab_store_read.specs.Reads.{MayRead}
use Rattle.lab_store_read.proofs.Readers.{none_read, may_and, may_both, may_fail}

pub none_left : {A : Type 0} (rest : List A) → length rest ≡ 0 → rest ≡ []
none_left [] none = refl
none_left (one ∷ more) none = absurd (omega (arith, none))

-- one more of the rows was made
pub one_more : {A B : Type 0} (f : A → B) (made more whole : List B) (one : A) (left rest : List A) → left ≡ one ∷ rest → made ++ map f left ≡ whole
    → more ≡ made ++ f one ∷ [] → more ++ map f rest ≡ whole
one_more f made more whole one left rest steps so is =
    ap (λ it. it ++ map f rest) is ∙ append_assoc made (f one ∷ []) (map f rest) ∙ ap (λ it. made ++ map f it) (sym steps) ∙ so

all_made : {A B : Type 0} (f : A → B) (made whole : List B) (left : List A) → left ≡ [] → made ++ map f left ≡ whole → made ≡ whole
all_made f made whole left none so = sym (append-nil made) ∙ ap (λ it. made ++ map f it) (sym none) ∙ so

-- what was made, and what the rows are that are left, is all
pub record HasPut {A B : Type 0} (by : Tables → A → B) (begun : List B) (rows : List A) (made : List B) (left : List A) (old now : State) : Type 0 where
  pub reads : MayRead {T = Unit {0}} {E = ⊥} (λ t _. made ++ map (by t) left ≡ begun ++ map (by t) rows) old now (Ok tt)

pub none_put : {A B : Type 0} (by : Tables → A → B) (begun : List B) (rows left : List A) (s : State) → left ≡ rows → HasPut by begun rows begun left s s
none_put by begun rows left s same = record { reads = none_read (ap (λ it. begun ++ map (by (tables_of s)) it) same) }

module _ {A B : Type 0} {by : Tables → A → B} {begun : List B} {rows : List A} {made : List B} {left : List A} {old mid : State} (so : HasPut by begun rows made left old mid) where
  pub one_put : {F : Type 0} {more : List B} {one : A} {rest : List A} {new : State} → left ≡ one ∷ rest
      → MayRead {T = Unit {0}} {E = F} (λ t _. more ≡ made ++ by t one ∷ []) mid new (Ok tt) → HasPut by begun rows more rest old new
  one_put {F} {more} {one} {rest} {new} steps next = record {
    reads = may_both so.reads next (λ was is. one_more (by (tables_of old)) made more _ one left rest steps was is);
  }

  pub all_put : {F : Type 0} → left ≡ [] → MayRead {T = Unit {0}} {E = F} (λ t _. made ≡ begun ++ map (by t) rows) old mid (Ok tt)
  all_put none = may_and so.reads (λ was. all_made (by (tables_of old)) made _ left none was)

  pub put_fails : {B C F G : Type 0} {Is : Tables → B → Type 0} {Then : Tables → C → Type 0} {new : State} {r : Result B F} → MayRead Is mid new r
      → (end : Result C G) (Q : G → Type 0) → IsErrAnd end Q → MayRead Then old new end
  put_fails next (Ok c) Q failed = absurd failed
  put_fails next (Err e) Q failed = may_fail so.reads next
