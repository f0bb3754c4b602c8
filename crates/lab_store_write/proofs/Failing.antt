-- Why a call fails: by its last statement, behind the calls before it.
use Rattle.std.proofs.Common.{◌≡◌, ◌⊎◌, inl, inr, ℕ, ℤ, ◌<◌, Bool, map, true, false, List, [], ◌∷◌, length, Ok, Err, Result, IfErr, refl, sym, ap, subst, ◌∙◌, IsTrue, arith}
use Rattle.std.specs.Prelude.{IsErrAnd}
use Rattle.sqlite_value.specs.declared.value.Value.TheVariants.{Null, Int, Real, Text, Blob}
use Rattle.sqlite_value.specs.Order.{Row, column}
use Rattle.sqlite.specs.declared.error.Error.{Error}
use Rattle.sqlite.specs.declared.error.Error.TheVariants.{SqliteFailure}
use Rattle.sqlite.specs.declared.error.ErrorCode.TheVariants as code
use Rattle.sqlite.specs.Values.{IsInt}
use Rattle.sqlite.specs.State.{State, HasCleanDisk, Survives, ExecutesInside, FailsToQuery, IsTooLate}
use Rattle.lab_store_tables.specs.Rows.{Tables}
use Rattle.lab_store_tables.specs.Held.{IsTyped}
use Rattle.lab_store_tables.specs.Ready.{tables_of}
use Rattle.lab_store_read.specs.Faults.{is_out_of_memory}
use Rattle.lab_store_write.specs.Causes.{is_reading, is_writing, statement, Statement, Tries, Anything, IsUnread, IsUnnamed, IsOurs, IsRefused, IsNamedInVain, RunsInside, FailsTrying}
use Rattle.lab_store_write.specs.Private.Causes.{IsVain}
use Rattle.lab_store_write.proofs.AnyEndings.{FailsBy}
use Rattle.lab_store_write.proofs.Inside.{none_then}

pub unmoved : (s : State) → Survives s s (λ _. ⊥)
unmoved s = record {
  clean = omega arith;
  shield = λ h. h;
  counts = omega arith;
  limit = refl;
  closes = λ _ opened. inl opened;
  crash = λ _ db left. inl left;
}

-- what went wrong in r went wrong in another result
pub passed : {B E : Type 0} (P : E → Type 0) {e : E} → P e → (r : Result B E) → IsErrAnd r (λ d. d ≡ e) → IfErr r P
passed P it (Ok x) failed = absurd failed
passed P it (Err d) failed = subst P (sym failed) it

-- a statement after which no fault went unseen
pub still_on : (old new : State) → Survives old new (λ _. ⊥) → IsTrue old.in_transaction → HasCleanDisk new → IsTyped old.now → RunsInside old new
still_on old new survives inside clean typed = record { inside = inside; clean = omega (arith, survives.clean, clean); typed = typed; survives = survives }

module _ {T : Type 0} (state : T → State) where
  -- by the one statement of the call
  pub fails_here : (tries : Tries) (one : Statement) (a b : T) (e : Error) → tries (tables_of (state a)) one (tables_of (state a)) → RunsInside (state a) (state b)
      → IsRefused one (state a) (state b) e ⊎ IsNamedInVain one (state a) (state b) e → FailsTrying tries state a b e
  fails_here tries one a b e own goes why = inr (record { last = a; led = unmoved (state a); ran = goes; tried = one; own = own; why = why })

  pub ran_badly_by : (tries : Tries) (sql : List ℕ) (params : Row) → IsOurs is_writing sql params → (a b : T) (e : Error) → tries (tables_of (state a)) (statement sql params) (tables_of (state a))
      → RunsInside (state a) (state b) → ExecutesInside 0 sql params (state a) (state b) (Err e) → FailsTrying tries state a b e
  ran_badly_by tries sql params ours a b e own goes ran = fails_here tries (statement sql params) a b e own goes (inl (inl (ours, ran)))

  pub ran_badly : (sql : List ℕ) (params : Row) → IsOurs is_writing sql params → (a b : T) (e : Error) → RunsInside (state a) (state b) → ExecutesInside 0 sql params (state a) (state b) (Err e) → FailsBy state a b e
  ran_badly sql params ours a b e goes ran = ran_badly_by Anything sql params ours a b e tt goes ran

  pub asked_badly_by : (tries : Tries) (sql : List ℕ) (params : Row) → IsOurs is_reading sql params → (a b : T) (e : Error) → tries (tables_of (state a)) (statement sql params) (tables_of (state a))
      → RunsInside (state a) (state b) → FailsToQuery sql params (state a) (state b) e ⊎ IsTooLate sql params (state a) (state b) e → FailsTrying tries state a b e
  asked_badly_by tries sql params ours a b e own goes (inl asked) = fails_here tries (statement sql params) a b e own goes (inl (inr (ours, asked)))
  asked_badly_by tries sql params ours a b e own goes (inr late) = absurd (let on = goes.inside in let off = late.3 in cc)

  -- by what other calls may try, too
  pub fails_trying : {tries : Tries} (more : Tries) (a b : T) (e : Error) → ((tried : Statement) (at : Tables) → tries (tables_of (state a)) tried at → more (tables_of (state a)) tried at)
      → FailsTrying tries state a b e → FailsTrying more state a b e
  fails_trying more a b e own (inl memory) = inl memory
  fails_trying more a b e own (inr it) =
      inr (record { last = it.last; led = it.led; ran = it.ran; tried = it.tried; own = own it.tried (tables_of (state it.last)) it.own; why = it.why })

  -- behind other calls
  pub fails_behind_by : {tries : Tries} (more : Tries) (a b c : T) (e : Error) → ((tried : Statement) (at : Tables) → tries (tables_of (state b)) tried at → more (tables_of (state a)) tried at)
      → Survives (state a) (state b) (λ _. ⊥) → FailsTrying tries state b c e → FailsTrying more state a c e
  fails_behind_by more a b c e own led (inl memory) = inl memory
  fails_behind_by more a b c e own led (inr it) =
      inr (record {
        last = it.last;
        led = none_then (state a) (state b) (state it.last) led it.led;
        ran = it.ran;
        tried = it.tried;
        own = own it.tried (tables_of (state it.last)) it.own;
        why = it.why;
      })

  pub fails_behind : {tries : Tries} (a b c : T) (e : Error) → Survives (state a) (state b) (λ _. ⊥) → FailsTrying tries state b c e → FailsBy state a c e
  fails_behind a b c e led it = fails_behind_by Anything a b c e (λ _ _ _. tt) led it

-- ---- an id that isn't read

-- a row that shows an id is read, unless memory ran out
pub unread_row : (row : Row) (e : Error) → ((e ≡ SqliteFailure code.OutOfMemory → ⊥) → 0 < length row → ¬ IsInt (column row 0)) → IsUnread row e
unread_row [] e h = inr refl
unread_row (Null ∷ row) e h = inr refl
unread_row (Int n ∷ row) e h = by (is_out_of_memory e) refl
  where
    by : (b : Bool) → is_out_of_memory e ≡ b → IsUnread (Int n ∷ row) e
    by true is = inl is
    by false is = absurd (h (λ same. let wrong = ap is_out_of_memory same in cc) (omega arith) (n, refl))
unread_row (Real x ∷ row) e h = inr refl
unread_row (Text t ∷ row) e h = inr refl
unread_row (Blob b ∷ row) e h = inr refl

-- where each row shows the id of what is found
unnamed_among : {X : Type 0} (key : X → ℤ) (xs : List X) (e : Error) → IsUnnamed (map (λ (x : X). Int (key x) ∷ []) xs) e → IsVain (map (λ (x : X). Int (key x) ∷ []) xs) e
unnamed_among key [] e (inl it) = inr (it.1, refl)
unnamed_among key [] e (inr it) = absurd it
unnamed_among key (x ∷ xs) e (inl it) = absurd (let wrong = it.0 in cc)
unnamed_among key (x ∷ xs) e (inr (inl memory)) = inl memory
unnamed_among key (x ∷ xs) e (inr (inr unread)) = absurd (let wrong = unread in cc)

pub unnamed_vainly : {X B : Type 0} (key : X → ℤ) (xs : List X) (slice rows : List Row) → slice ≡ rows → rows ≡ map (λ (x : X). Int (key x) ∷ []) xs → (r : Result B Error)
    → IfErr r (IsUnnamed slice) → IfErr r (IsVain rows)
unnamed_vainly key xs slice rows same are (Ok b) bad = tt
unnamed_vainly key xs slice rows same are (Err e) bad = subst (λ (l : List Row). IsVain l e) (sym are) (unnamed_among key xs e (subst (λ (l : List Row). IsUnnamed l e) (same ∙ are) bad))
