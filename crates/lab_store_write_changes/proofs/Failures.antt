-- Why changes that were made one after the other failed: for the one that failed, behind those before it.
use Rattle.std.proofs.Common.{◌≡◌, ◌⊎◌, inl, inr, ℕ, ◌<◌, List, [], ◌∷◌, ◌++◌, length, get_or, Ok, Err, Result, IfErr, sym, subst}
use Rattle.std.specs.Prelude.{IsErrAnd}
use Rattle.std.specs.List.{Contains}
use Rattle.std.proofs.lemmas.List.Elements.{Contains-get_or, Contains-append_left, Contains-append_right}
use Rattle.sqlite.specs.declared.error.Error.{Error}
use Rattle.sqlite.specs.State.{State, Survives}
use Rattle.lab_records_kept.specs.declared.changes.Change.{Change}
use Rattle.lab_records_kept.specs.declared.changes.Change.TheVariants.{Last, TrailAdded}
use Rattle.lab_records_kept.specs.declared.trails.TrailRow.{TrailRow as Told}
use Rattle.lab_store_tables.specs.Rows.{Tables}
use Rattle.lab_store_tables.specs.Ready.{tables_of}
use Rattle.lab_store_write.specs.Causes.{Statement, Tries, FailsTrying}
use Rattle.lab_store_write.proofs.AnyEndings.{FailsBy}
use Rattle.lab_store_write.proofs.Failing.{fails_trying, fails_behind, fails_behind_by}
use Rattle.lab_store_write_changes.specs.Causes.{IsTooMuch, OneIsTooMuch}
use Rattle.lab_store_write_changes.specs.Framed.{IsFramed}

module _ {T : Type 0} (state : T → State) where
  -- one of them failed, behind others
  pub one_failed : {tries : Tries} (more : Tries) (a b c : T) (changes : List Change) (i : ℕ) (one : Change) → one ≡ get_or changes i one → i < length changes
      → ((tried : Statement) (at : Tables) → tries (tables_of (state b)) tried at → more (tables_of (state a)) tried at) → Survives (state a) (state b) (λ _. ⊥)
      → {e : Error} → IsTooMuch one ⊎ FailsTrying tries state b c e → {B : Type 0} (r : Result B Error) → IsErrAnd r (λ d. d ≡ e)
      → IfErr r (λ d. OneIsTooMuch changes ⊎ FailsTrying more state a c d)
  one_failed more a b c changes i one is within own led why (Ok x) failed = absurd failed
  one_failed more a b c changes i one is within own led (inl much) (Err d) failed =
      inl (record { one = one; among = subst (Contains changes) (sym is) (Contains-get_or changes i one within); much = much })
  one_failed more a b c changes i one is within own led {e} (inr it) (Err d) failed =
      inr (subst (FailsTrying more state a c) (sym failed) (fails_behind_by state more a b c e own led it))

  -- a call failed for these, behind others
  pub failed_behind : (Beside : Type 0) (a b c : T) → Survives (state a) (state b) (λ _. ⊥) → {B : Type 0} (s : Result B Error) → IfErr s (λ e. Beside ⊎ FailsBy state b c e)
      → IfErr s (λ e. Beside ⊎ FailsBy state a c e)
  failed_behind Beside a b c led (Ok x) why = tt
  failed_behind Beside a b c led (Err e) (inl beside) = inl beside
  failed_behind Beside a b c led (Err e) (inr it) = inr (fails_behind state a b c e led it)

  pub failed_behind_trying : {tries : Tries} (more : Tries) (Beside : Type 0) (a b c : T) → ((tried : Statement) (at : Tables) → tries (tables_of (state b)) tried at → more (tables_of (state a)) tried at)
      → Survives (state a) (state b) (λ _. ⊥) → {e : Error} → Beside ⊎ FailsTrying tries state b c e → Beside ⊎ FailsTrying more state a c e
  failed_behind_trying more Beside a b c own led (inl beside) = inl beside
  failed_behind_trying more Beside a b c own led {e} (inr it) = inr (fails_behind_by state more a b c e own led it)

  -- for what another call may try, too
  pub failed_alike : {tries : Tries} (more : Tries) (Beside : Type 0) (a b : T) → ((tried : Statement) (at : Tables) → tries (tables_of (state a)) tried at → more (tables_of (state a)) tried at)
      → {e : Error} → Beside ⊎ FailsTrying tries state a b e → Beside ⊎ FailsTrying more state a b e
  failed_alike more Beside a b own (inl beside) = inl beside
  failed_alike more Beside a b own {e} (inr it) = inr (fails_trying state more a b e own it)

  -- for its causes alone
  pub failed_so : (Beside : Type 0) (a b : T) → {B : Type 0} (s : Result B Error) → IfErr s (λ e. ⊥ ⊎ FailsBy state a b e) → IfErr s (λ e. Beside ⊎ FailsBy state a b e)
  failed_so Beside a b (Ok x) why = tt
  failed_so Beside a b (Err e) (inl none) = absurd none
  failed_so Beside a b (Err e) (inr it) = inr it

  -- the failure is passed on
  pub failed_on : (tries : Tries) (Beside : Type 0) (a b : T) → {e : Error} → Beside ⊎ FailsTrying tries state a b e → {B : Type 0} (r : Result B Error) → IsErrAnd r (λ d. d ≡ e)
      → IfErr r (λ d. Beside ⊎ FailsTrying tries state a b d)
  failed_on tries Beside a b why (Ok x) failed = absurd failed
  failed_on tries Beside a b why (Err d) failed = subst (λ (d : Error). Beside ⊎ FailsTrying tries state a b d) (sym failed) why

  -- those between are among all
  pub failed_framed : {tries : Tries} (more : Tries) (moment : ℕ) (between : List Change) (told : Told) (changes : List Change) → IsFramed moment between told changes → (a b : T)
      → ((tried : Statement) (at : Tables) → tries (tables_of (state a)) tried at → more (tables_of (state a)) tried at) → {e : Error}
      → OneIsTooMuch between ⊎ FailsTrying tries state a b e → OneIsTooMuch changes ⊎ FailsTrying more state a b e
  failed_framed more moment between told changes framed a b own (inl it) = inl (record {
    one = it.one;
    among = subst (λ (l : List Change). Contains l it.one) (sym framed.whole)
        (Contains-append_right (Last moment ∷ []) (between ++ TrailAdded told ∷ []) it.one (Contains-append_left between (TrailAdded told ∷ []) it.one it.among));
    much = it.much;
  })
  failed_framed more moment between told changes framed a b own {e} (inr it) = inr (fails_trying state more a b e own it)

-- for its causes alone
pub told_so : {Beside F : Type 0} → ⊥ ⊎ F → Beside ⊎ F
told_so (inl none) = absurd none
told_so (inr it) = inr it
