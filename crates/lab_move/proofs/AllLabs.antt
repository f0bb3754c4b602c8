-- All laboratories of an old file, moved, and the new file finished.
use Rattle.std.proofs.Common.{◌≡◌, inl, inr, ℕ, List, length, Ok, Err, Result, IfErr, sym, subst}
use Rattle.std.specs.Prelude.{All}
use Rattle.sqlite.specs.Effect.{Database}
use Rattle.sqlite.specs.State.{State, HasCleanDisk}
use Rattle.lab_store_tables.specs.Rows.{Tables}
use Rattle.lab_move_tables.specs.Reading.{ReadsAs}
use Rattle.lab_move_tables.proofs.OldReaders.{may_then, stands_since}
use Rattle.lab_move_write.specs.Commits.{MakesAtOnce}
use Rattle.lab_move_write.specs.Unfinished.{Finishes}
use Rattle.lab_move_read.specs.Laboratories.{codes_of}
use Rattle.lab_move.specs.declared.faults.MoveFault.{MoveFault}
use Rattle.lab_move.specs.Private.Moving.{AreCounted, BlamesFirst, BlamesFirstOfAll, FillsAll, IsWholeOf}
use Rattle.lab_move.specs.Moving.{Fills, HasThese, IsFirstUnsound, IsSoundIn, IsWhole}
use Rattle.lab_move.proofs.FilledFiles.{finished, whole_is}
use Rattle.lab_move.proofs.OneLab.{errs_as}
use Rattle.lab_move.proofs.Steps.{step_more, steps_as, steps_fail}

-- ---- finished behind the last one

pub counted : {Stands : Database → Tables → Type 0} {E F : Type 0} (codes : List (List ℕ)) {old mid new : State} {r : Result ℕ F}
    → ReadsAs Stands {T = Unit {0}} {E = E} (λ t _. All (IsSoundIn t) codes) old mid (Ok tt)
    → ReadsAs Stands (λ t count. count ≡ length codes) mid new r → ReadsAs Stands (AreCounted codes) old new r
counted codes read next = may_then read next (λ t file all n is. (sym is, all))

pub finishes_all : {Stands : Database → Tables → Type 0} {B E F : Type 0} (codes : List (List ℕ)) {before after old mid new : State} {r : Result B F}
    → Fills {A = Unit {0}} {E = E} (HasThese Stands before after codes) (Ok tt) old mid
    → MakesAtOnce (Finishes mid.now) r mid new → FillsAll (IsWholeOf Stands before after codes) r old new
finishes_all {Stands} codes {before} {after} {old} {mid} p q =
    step_more (steps_as (Ok tt) p (λ db h begun. inl (h begun)) (λ db h. h)) q (λ h begun. (h begun).file)
    (λ db h next begun. inr (finished before after codes mid.now db next (h begun)))
    (λ db h next begun. finished before after codes mid.now db next (h begun))

-- by what was read up to a later moment
pub all_later : {Stands : Database → Tables → Type 0} {B F : Type 0} (codes : List (List ℕ)) (r : Result B F) {before after late old new : State} → (HasCleanDisk late → HasCleanDisk after)
    → FillsAll (IsWholeOf Stands before after codes) r old new → FillsAll (IsWholeOf Stands before late codes) r old new
all_later {Stands} codes r {before} {after} {late} clean it =
    steps_as r it (λ db h begun. elim (h begun) [ inl filling ↦ inl filling | inr whole ↦ inr (later db whole) ]) (λ db h begun. later db (h begun))
  where
    later : (db : Database) → IsWholeOf Stands before after codes db → IsWholeOf Stands before late codes db
    later db whole = record { file = whole.file; sound = whole.sound; same = λ t so. whole.same t (so.0, clean so.1) }

pub fails_all : {Stands : Database → Tables → Type 0} {A B E F : Type 0} (codes : List (List ℕ)) {before after old new : State} {e : E} (f : F)
    → Fills {A = A} (HasThese Stands before after codes) (Err e) old new
    → FillsAll {A = B} (IsWholeOf Stands before after codes) (Err f) old new
fails_all codes f p = steps_fail f p (λ db h begun. inl (h begun))

-- ---- of the codes that were read

module _ {Stands : Database → Tables → Type 0} {E : Type 0} (codes : List (List ℕ)) (before mid after : State) (read : ReadsAs Stands {E = E} (λ t made. made ≡ codes_of t) before mid (Ok codes)) where
  pub all_counted : {F : Type 0} {r : Result ℕ F} → ReadsAs Stands (AreCounted codes) mid after r → ReadsAs Stands (λ t. AreCounted (codes_of t) t) before after r
  all_counted next = may_then read next (λ t file is count it. subst (λ l. AreCounted l t count) is it)

  module _ (clean : HasCleanDisk after → HasCleanDisk mid) where
    pub all_filled : {B F : Type 0} (r : Result B F) {old new : State} → FillsAll (IsWholeOf Stands mid after codes) r old new
        → FillsAll (IsWhole Stands before after) r old new
    all_filled r it =
        steps_as r it (λ db h begun. elim (h begun) [ inl filling ↦ inl filling | inr whole ↦ inr (whole_is before mid after codes db read clean whole) ])
        (λ db h begun. whole_is before mid after codes db read clean (h begun))

    pub all_blamed : {A : Type 0} (r : Result A MoveFault) → IfErr r (BlamesFirst Stands mid after codes) → IfErr r (BlamesFirstOfAll Stands before after)
    all_blamed r it = errs_as r (λ one first t so.
        let late = clean so.1 in
        let here : IsFirstUnsound t codes one = first t (stands_since Stands (read.shows late) t so.0, so.1) in
        subst (λ l. IsFirstUnsound t l one) (read.answer t so.0 late) here) it
