-- Calls that commit one after the other, by the states between.
use Rattle.std.proofs.Common.{inl, inr, Ok, Err, Result, OnOk, OnErr, refl, sym, subst, ◌∙◌, arith}
use Rattle.sqlite.specs.Effect.{Database}
use Rattle.sqlite.specs.State.{State}
use Rattle.lab_store_tables.specs.Ready.{IsAtRest}
use Rattle.lab_move_write.specs.Commits.{MakesAtOnce}
use Rattle.lab_move.specs.Moving.{MakesBySteps}

on_ok : {A E P Q : Type 0} (r : Result A E) → (P → Q) → OnOk r P → OnOk r Q
on_ok (Ok a) f p = f p
on_ok (Err e) f p = tt

on_err : {A E P Q : Type 0} (r : Result A E) → (P → Q) → OnErr r P → OnErr r Q
on_err (Ok a) f p = tt
on_err (Err e) f p = f p

-- nothing was done yet
pub no_step : {A E : Type 0} {Left Filled Made : Database → Type 0} (a : A) (s : State) → IsAtRest s → Made s.now
    → MakesBySteps Left Filled Made {E = E} (Ok a) s s
no_step a s rest made = record {
  at_rest = rest;
  clean = λ clean. clean;
  live = λ clean opened. opened;
  crash = λ clean opened trees left. inl left;
  made = λ clean opened. (opened, made);
  rows = λ clean opened. tt;
  counts = omega arith;
  limit = refl;
}

-- one commit more
pub step_more : {A B E F : Type 0} {Left Filled Mid Made Next : Database → Type 0} {a : A} {r : Result B F} {old mid new : State}
    → MakesBySteps Left Filled Mid {E = E} (Ok a) old mid → MakesAtOnce Next r mid new
    → (Mid mid.now → Filled mid.now) → ((db : Database) → Mid mid.now → Next db → Left db) → ((db : Database) → Mid mid.now → Next db → Made db)
    → MakesBySteps Left Filled Made r old new
step_more {A} {B} {E} {F} {Left} {Filled} {Mid} {Made} {Next} {a} {r} {old} {mid} {new} p q stays left done = record {
  at_rest = q.once.at_rest;
  clean = λ clean. p.clean (q.once.clean clean);
  live = λ clean opened. p.live (q.once.clean clean) (q.live clean opened);
  crash = λ clean opened trees found.
      let early = q.once.clean clean in
      let here = p.made early opened in
      elim (q.once.crash clean here.0 trees found) [ inl before ↦ p.crash early opened trees before | inr it ↦ inr (it.0, left it.0 here.1 it.1, it.2) ];
  made = λ clean opened. let here = p.made (q.once.clean clean) opened in on_ok r (λ it. (it.1, done new.now here.1 it.2)) (q.made clean);
  rows = λ clean opened.
      let early = q.once.clean clean in
      let here = p.made early (p.live early (q.live clean opened)) in
      on_err r (λ same. inr (subst Filled (sym same) (stays here.1))) (q.rows clean opened);
  counts = omega (arith, p.counts, q.counts);
  limit = q.limit ∙ p.limit;
}

-- one that failed
pub steps_fail : {A B E F : Type 0} {Left Filled Made Most All : Database → Type 0} {e : E} (f : F) {old new : State}
    → MakesBySteps Left Filled Made {A = A} (Err e) old new
    → ((db : Database) → Left db → Most db) → MakesBySteps Most Filled All {A = B} (Err f) old new
steps_fail f p weaker = record {
  at_rest = p.at_rest;
  clean = p.clean;
  live = p.live;
  crash = λ clean opened trees found. elim (p.crash clean opened trees found) [ inl before ↦ inl before | inr it ↦ inr (it.0, weaker it.0 it.1, it.2) ];
  made = λ clean opened. tt;
  rows = p.rows;
  counts = p.counts;
  limit = p.limit;
}

-- in other words
pub steps_as : {A E : Type 0} {Left Filled Made Most All : Database → Type 0} (r : Result A E) {old new : State} → MakesBySteps Left Filled Made r old new
    → ((db : Database) → Left db → Most db) → ((db : Database) → Made db → All db) → MakesBySteps Most Filled All r old new
steps_as r {old} {new} p weaker other = record {
  at_rest = p.at_rest;
  clean = p.clean;
  live = p.live;
  crash = λ clean opened trees found. elim (p.crash clean opened trees found) [ inl before ↦ inl before | inr it ↦ inr (it.0, weaker it.0 it.1, it.2) ];
  made = λ clean opened. on_ok r (λ it. (it.0, other new.now it.1)) (p.made clean opened);
  rows = p.rows;
  counts = p.counts;
  limit = p.limit;
}

-- a call that didn't come to it
pub nothing_by_steps : {A E : Type 0} {Left Filled Made : Database → Type 0} (e : E) (s : State) → IsAtRest s
    → MakesBySteps Left Filled Made {A = A} (Err e) s s
nothing_by_steps e s rest = record {
  at_rest = rest;
  clean = λ clean. clean;
  live = λ clean opened. opened;
  crash = λ clean opened trees left. inl left;
  made = λ clean opened. tt;
  rows = λ clean opened. inl refl;
  counts = omega arith;
  limit = refl;
}

-- an answer in other words
pub steps_ok : {A B E F : Type 0} {Left Filled Made : Database → Type 0} {a : A} (b : B) {old new : State}
    → MakesBySteps Left Filled Made {E = E} (Ok a) old new
    → MakesBySteps Left Filled Made {E = F} (Ok b) old new
steps_ok b p = record { at_rest = p.at_rest; clean = p.clean; live = p.live; crash = p.crash; made = p.made; rows = p.rows; counts = p.counts; limit = p.limit }
