-- Small instances of the definition: calls that commit once or not at all.
use Rattle.std.proofs.Common.{◌≡◌, inl, Ok, Err, refl}
use Rattle.std.specs.Prelude.{IsTrue}
use Rattle.sqlite.specs.State.{State, HasCleanDisk}
use Rattle.lab_store_tables.specs.Rows.{Tables}
use Rattle.lab_store_tables.specs.Held.{IsTyped}
use Rattle.lab_store_tables.specs.Ready.{IsAtRest}
use Rattle.lab_store_tables.proofs.Shutting.{shuts_none}
use Rattle.lab_store.specs.Commits.{EndsStep}

-- whatever was to be made, a call that failed and left the connection as it was has ended so
pub known_failed : {E : Type 0} (step : Tables → Tables → Type 0) (fault : E) (s : State) → IsAtRest s
    → EndsStep step {A = Unit {0}} {E = E} (Err fault) s s
known_failed step fault s rest = record {
  at_rest = rest;
  clean = λ clean. clean;
  live = λ clean open_still. open_still;
  made = λ clean. tt;
  rows = λ clean open_still. refl;
  crash = λ clean was_open trees left. inl left;
  shuts = shuts_none s;
}

-- none that made its step has ended so on a connection that was shut
pub known_shut : {E : Type 0} (step : Tables → Tables → Type 0) (s new : State) → HasCleanDisk new → (IsTrue s.is_open → ⊥)
    → EndsStep step {A = Unit {0}} {E = E} (Ok tt) s new → ⊥
known_shut step s new clean shut ends = shut (ends.made clean).0

-- and none that failed and whose rows another connection shows
pub known_changed : {E : Type 0} (step : Tables → Tables → Type 0) (fault : E) (old new : State) → HasCleanDisk new
    → IsTrue new.is_open → (new.now ≡ old.now → ⊥) → EndsStep step {A = Unit {0}} {E = E} (Err fault) old new → ⊥
known_changed step fault old new clean live changed ends = changed (ends.rows clean live)

-- a step that is never made isn't made of tables of ours
pub known_never : {E : Type 0} (old new : State) → HasCleanDisk new → IsTyped old.now
    → EndsStep (λ (before after : Tables). ⊥) {A = Unit {0}} {E = E} (Ok tt) old new → ⊥
known_never old new clean typed ends = ((ends.made clean).2 typed).1
