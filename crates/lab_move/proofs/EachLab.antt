-- The laboratories of a list of codes, one after the other: what was read of the old file, and what the new one has.
use Rattle.std.proofs.Common.{◌≡◌, ℕ, ◌+◌, ◌<◌, List, [], ◌∷◌, ◌++◌, take, drop, get_or, length, Ok, Err, Result, IfErr, sym, ap, subst, ◌∙◌, append_assoc}
use Rattle.std.specs.Prelude.{All, IsErrAnd}
use Rattle.std.proofs.lemmas.List.{take_more, take-append-drop}
use Rattle.std.proofs.lemmas.List.Elements.{All-push, All-nil}
use Rattle.sqlite.specs.Effect.{Database}
use Rattle.sqlite.specs.State.{State, HasCleanDisk}
use Rattle.lab_store_tables.specs.Rows.{Tables}
use Rattle.lab_store_tables.specs.Ready.{IsAtRest}
use Rattle.lab_move_tables.specs.Reading.{ReadsAs}
use Rattle.lab_move_tables.proofs.OldReaders.{none_read, may_both, may_and, stands_since}
use Rattle.lab_move_write.specs.Commits.{MakesAtOnce}
use Rattle.lab_move_write.proofs.Commits.{told_ok}
use Rattle.lab_move.specs.declared.faults.MoveFault.{MoveFault}
use Rattle.lab_move.specs.Private.Moving.{Blames, CarriesFrom}
use Rattle.lab_move.specs.Moving.{Fills, HasThese, IsBegun, IsFirstUnsound, ReadsOldAs, IsSoundIn, IsUnsoundIn}
use Rattle.lab_move.proofs.FilledFiles.{none_carried, one_carried}
use Rattle.lab_move.proofs.OneLab.{blames_as}
use Rattle.lab_move.proofs.Steps.{no_step, step_more, steps_fail, steps_ok}

-- those so far are in the new file
pub record HasMoved (Stands : Database → Tables → Type 0) (done : List (List ℕ)) (old now was is : State) : Type 0 where
  pub reads : ReadsAs Stands {T = Unit {0}} {E = ⊥} (λ t _. All (IsSoundIn t) done) old now (Ok tt)
  pub fills : Fills {A = Unit {0}} {E = ⊥} (HasThese Stands old now done) (Ok tt) was is

pub none_moved : {Stands : Database → Tables → Type 0} (old was : State) → IsAtRest was → HasMoved Stands [] old old was was
none_moved old was rest = record { reads = none_read (λ t. All-nil (IsSoundIn t)); fills = no_step tt was rest (none_carried old old was.now) }

-- the files at both ends of a reading have the same rows
same_rows : {Stands : Database → Tables → Type 0} {A E : Type 0} {Was : Tables → A → Type 0} {old now : State} {a : A} → ReadsAs Stands {E = E} Was old now (Ok a) → HasCleanDisk now → now.now ≡ old.now
same_rows it clean = it.shows clean

module _ {Stands : Database → Tables → Type 0} {done : List (List ℕ)} {old mid was is : State} (so : HasMoved Stands done old mid was is) (code : List ℕ) where
  -- what the next one makes of it
  pub next_fills : {A F : Type 0} {r : Result A F} {now new : State} → (HasCleanDisk now → HasCleanDisk mid)
      → MakesAtOnce (CarriesFrom Stands mid now code is.now) r is new
      → Fills (HasThese Stands old now (done ++ code ∷ [])) r was new
  next_fills {now = now} {new = new} clean it =
      let made = λ (db : Database) (h : IsBegun was.now → HasThese Stands old mid done is.now) (next : CarriesFrom Stands mid now code is.now db) (begun : IsBegun was.now).
      one_carried old mid now done code is.now db clean so.reads.shows next (h begun) in
      step_more so.fills it (λ h begun. (h begun).file) (λ db h next begun. (made db h next begun).file) made

  pub one_moved : {F : Type 0} {now new : State} → ReadsAs Stands {T = Unit {0}} {E = F} (λ t _. IsSoundIn t code) mid now (Ok tt)
      → MakesAtOnce (CarriesFrom Stands mid now code is.now) {A = Unit {0}} {E = F} (Ok tt) is new → HasMoved Stands (done ++ code ∷ []) old now was new
  one_moved {now = now} {new = new} read it = record {
    reads = may_both so.reads read (λ t file all one. All-push (IsSoundIn t) done code all one);
    fills = next_fills read.passes.clean (told_ok tt tt it);
  }

  -- where it failed
  module _ {A F : Type 0} {now : State} {r : Result A F} (read : ReadsAs Stands (λ t _. IsSoundIn t code) mid now r) where
    pub blamed_first : (codes rest : List (List ℕ)) → codes ≡ done ++ code ∷ rest → (one : List ℕ)
        → (one ≡ code) × ((t : Tables) → ReadsOldAs Stands mid now t → IsUnsoundIn t code)
        → (t : Tables) → ReadsOldAs Stands old now t → IsFirstUnsound t codes one
    blamed_first codes rest split one it t here =
        let clean = read.passes.clean here.1 in
        let unsound : IsUnsoundIn t code = it.1 t (stands_since Stands (so.reads.shows clean) t here.0, here.1) in (
          done,
          rest,
          subst (λ c. codes ≡ done ++ c ∷ rest) (sym it.0) split,
          so.reads.answer t here.0 clean,
          subst (IsUnsoundIn t) (sym it.0) unsound,
        )

-- a fault that is handed on
pub fills_fail : {A B E F : Type 0} {Made All : Database → Type 0} {e : E} {old new : State} → Fills {A = A} Made (Err e) old new
    → (end : Result B F) (Q : F → Type 0) → IsErrAnd end Q
    → Fills All end old new
fills_fail p (Ok b) Q failed = absurd failed
fills_fail p (Err f) Q failed = steps_fail f p (λ db h. h)

pub blames_on : {A : Type 0} {P Q : List ℕ → Type 0} (fault : MoveFault) → ((one : List ℕ) → P one → Q one) → Blames P fault → (end : Result A MoveFault)
    → IsErrAnd end (λ e. e ≡ fault)
    → IfErr end (Blames Q)
blames_on fault f h (Ok a) failed = absurd failed
blames_on {Q = Q} fault f h (Err e) failed = subst (Blames Q) (sym failed) (blames_as fault f h)

-- the codes before a place, the one there, and those behind
pub split_at : {X : Type 0} (xs : List X) (i : ℕ) (x d : X) → i < length xs → x ≡ get_or xs i d → xs ≡ take i xs ++ x ∷ drop (i + 1) xs
split_at xs i x d lt is =
    sym (take-append-drop (i + 1) xs) ∙ ap (λ l. l ++ drop (i + 1) xs) (take_more xs i d lt ∙ ap (λ it. take i xs ++ it ∷ []) (sym is)) ∙ append_assoc
    (take i xs) (x ∷ []) (drop (i + 1) xs)

pub grown : {X : Type 0} (xs : List X) (i : ℕ) (x d : X) → i < length xs → x ≡ get_or xs i d → take i xs ++ x ∷ [] ≡ take (i + 1) xs
grown xs i x d lt is = ap (λ it. take i xs ++ it ∷ []) is ∙ sym (take_more xs i d lt)

-- ---- all of them

pub all_read : {Stands : Database → Tables → Type 0} {F : Type 0} {done codes : List (List ℕ)} {old now was is : State} → HasMoved Stands done old now was is → done ≡ codes
    → ReadsAs Stands {T = Unit {0}} {E = F} (λ t _. All (IsSoundIn t) codes) old now (Ok tt)
all_read so same = may_and so.reads (λ t file all. subst (All (IsSoundIn t)) same all)

pub all_filled : {Stands : Database → Tables → Type 0} {F : Type 0} {done codes : List (List ℕ)} {old now was is : State} → HasMoved Stands done old now was is → done ≡ codes
    → Fills {A = Unit {0}} {E = F} (HasThese Stands old now codes) (Ok tt) was is
all_filled {Stands} {F} {done} {codes} {old} {now} {was} {is} so same =
    steps_ok tt (subst (λ l. Fills {A = Unit {0}} {E = ⊥} (HasThese Stands old now l) (Ok tt) was is) same so.fills)
