-- Loops over rows, each of which is read where it is well kept, and put after what was made before.
use Rattle.std.proofs.Common.{◌≡◌, Bool, true, false, ◌&&◌, All, List, [], ◌∷◌, ◌++◌, map, Option, Some, Result, Ok, Err, sym, ap, ◌∙◌, subst, append_assoc, append-nil}
use Rattle.std.proofs.lemmas.List.Elements.{All-head, All-same, All-rest}
use Rattle.std.specs.Prelude.{IsErrAnd}
use Rattle.std.specs.List.{list_all}
use Rattle.sqlite.specs.Effect.{Database}
use Rattle.sqlite.specs.State.{State}
use Rattle.lab_store_tables.specs.Rows.{Tables}
use Rattle.lab_move_tables.specs.Reading.{ReadsAs, ReadsWhere}
use Rattle.lab_move_tables.proofs.OldReaders.{may_fail}
use Rattle.lab_move_tables.proofs.Wheres.{none_where, where_and, where_both}
use Rattle.lab_move_read_people.specs.declared.faults.KeptFault.{KeptFault}
use Rattle.lab_move_read_people.specs.declared.faults.KeptFault.TheVariants.{Memory, Storage}
use Rattle.lab_move_read_people.specs.Kept.{found_of, IsFound, TriesWhere}
use Rattle.lab_move_read_people.proofs.Found.{then_ends}

-- those before were well kept, and what was made, and what is made of the rows that are left, is all
abbrev IsSoFar : {A B : Type 0} → (A → Bool) → (A → B) → List A → List B → List A → Type 0
IsSoFar test by rows made left = (list_all test rows ≡ list_all test left) × (map by rows ≡ made ++ map by left)

module _ {A B : Type 0} (test : A → Bool) (by : A → B) (rows : List A) (made : List B) where
  begun : (left : List A) → made ≡ [] → left ≡ rows → IsSoFar test by rows made left
  begun left none same = (ap (list_all test) (sym same), ap (map by) (sym same) ∙ ap (λ l. l ++ map by left) (sym none))

  module _ (left : List A) (so : IsSoFar test by rows made left) where
    turned : (more : List B) (one : A) (rest : List A) → left ≡ one ∷ rest → test one ≡ true → more ≡ made ++ by one ∷ [] → IsSoFar test by rows more rest
    turned more one rest steps passes is = (
      so.0 ∙ ap (list_all test) steps ∙ ap (λ b. b && list_all test rest) passes,
      so.1 ∙ ap (λ l. made ++ map by l) steps ∙ sym (append_assoc made (by one ∷ []) (map by rest)) ∙ ap (λ l. l ++ map by rest) (sym is),
    )

    stopped : (one : A) (rest : List A) → left ≡ one ∷ rest → test one ≡ false → list_all test rows ≡ false
    stopped one rest steps fails = so.0 ∙ ap (list_all test) steps ∙ ap (λ b. b && list_all test rest) fails

    all_pass : left ≡ [] → list_all test rows ≡ true
    all_pass none = so.0 ∙ ap (list_all test) none

    all_made : left ≡ [] → made ≡ map by rows
    all_made none = sym (so.1 ∙ ap (λ l. made ++ map by l) none ∙ append-nil made)

-- a call after another, that fails
pub then_fails : {Stands : Database → Tables → Type 0} {A B C E F G : Type 0} {Was : Tables → A → Type 0} {Is : Tables → B → Type 0} {Then : Tables → C → Type 0} {old mid new : State} {a : A} {r : Result B F}
    → ReadsAs Stands {E = E} Was old mid (Ok a) → ReadsAs Stands Is mid new r → (end : Result C G) (Q : G → Type 0) → IsErrAnd end Q → ReadsAs Stands Then old new end
then_fails it next (Ok c) Q failed = absurd failed
then_fails it next (Err e) Q failed = may_fail it next

-- what each of the rows that are left has, where all have it
pub record HasKept (Stands : Database → Tables → Type 0) {A B : Type 0} (Has : Database → Tables → A → Type 0) (test : Tables → A → Bool) (by : Tables → A → B) (rows : List A) (made : List B) (left : List A) (old now : State) : Type 0 where
  pub reads : ReadsWhere Stands (λ _ _. Unit {0}) {T = Unit {0}} {E = ⊥} (λ _. ⊥) (λ t _. IsSoFar (test t) (by t) rows made left) old now (Ok tt)
  pub readable : (db : Database) (t : Tables) → All (Has db t) rows → All (Has db t) left

pub none_kept : {Stands : Database → Tables → Type 0} {A B : Type 0} (Has : Database → Tables → A → Type 0) (test : Tables → A → Bool) (by : Tables → A → B) (rows left : List A) (made : List B) (s : State) → made ≡ [] → left ≡ rows
    → HasKept Stands Has test by rows made left s s
none_kept Has test by rows left made s none same = record {
  reads = none_where (λ t. begun (test t) (by t) rows made left none same);
  readable = λ db t all. All-same (Has db t) left rows same all;
}

module _ {Stands : Database → Tables → Type 0} {A B : Type 0} {Has : Database → Tables → A → Type 0} {test : Tables → A → Bool} {by : Tables → A → B} {rows : List A} {made : List B} {left : List A} {old mid : State} (so : HasKept Stands Has test by rows made left old mid) where
  module _ {X : Type 0} {Is : Tables → X → Type 0} {one : A} {rest : List A} {new : State} (steps : left ≡ one ∷ rest) where
    pub one_kept : {Needed : Database → Tables → Type 0} {F : Type 0} {IsTold : F → Type 0} {found : X} {more : List B} {put : B} → ReadsWhere Stands Needed {E = F} IsTold (λ t. IsFound (test t one) (Is t)) mid new (Ok (Some found))
        → more ≡ made ++ put ∷ [] → ((t : Tables) → Is t found → put ≡ by t one) → HasKept Stands Has test by rows more rest old new
    one_kept {found = found} {more = more} {put = put} next pushed f = record {
      reads = where_both so.reads next (λ t file was is. turned (test t) (by t) rows made left was more one rest steps is.0 (pushed ∙ ap (λ it. made ++ it ∷ []) (f t is.1))) (λ t file wanted was is. tt);
      readable = λ db t all. All-rest (Has db t) one rest left steps (so.readable db t all);
    }

    -- it isn't well kept, or a fault of the store ends the loop
    pub one_ends : {C : Type 0} {Then : Tables → C → Type 0} (fault : KeptFault) → TriesWhere Stands (λ db t. Has db t one) (λ t. test t one) Is mid new (Err fault)
        → (end : Result C KeptFault) → IsErrAnd end (λ e. e ≡ fault) → TriesWhere Stands (λ db t. All (Has db t) rows) (λ t. list_all (test t) rows) Then old new end
    one_ends fault next end failed = then_ends so.reads fault next (λ t file was fails. stopped (test t) (by t) rows made left was one rest steps fails)
        (λ t file wanted was. All-head (Has old.now t) one rest (subst (All (Has old.now t)) steps (so.readable old.now t wanted))) end failed

  -- there is no memory for one more
  pub push_ends : {C X F : Type 0} {Needed : Database → Tables → Type 0} {IsTold : F → Type 0} {Is : Tables → X → Type 0} {Then : Tables → Option C → Type 0} {found : X} {new : State} → ReadsWhere Stands Needed {E = F} IsTold Is mid new (Ok found)
      → (end : Result C KeptFault) → IsErrAnd end (λ e. e ≡ Memory) → ReadsWhere Stands (λ db t. All (Has db t) rows) (λ told. told ≡ Storage) Then old new (found_of end)
  push_ends next (Ok c) failed = absurd failed
  push_ends {C} {Then = Then} {new = new} next (Err e) failed =
      subst (λ (that : KeptFault). ReadsWhere Stands (λ db t. All (Has db t) rows) (λ told. told ≡ Storage) Then old new (found_of {T = C} (Err that))) (sym failed)
      (where_both so.reads next (λ t file was is. tt) (λ t file wanted was is told. absurd cc))

  pub all_kept : {X : Type 0} {Then : Tables → X → Type 0} {all : X} → left ≡ [] → ((t : Tables) → made ≡ map (by t) rows → Then t all)
      → TriesWhere Stands (λ db t. All (Has db t) rows) (λ t. list_all (test t) rows) Then old mid (Ok all)
  all_kept none f = where_and so.reads (λ t file was. (all_pass (test t) (by t) rows made left was none, f t (all_made (test t) (by t) rows made left was none))) (λ t file wanted was. tt)
