-- The laboratory's row and then all that it has, in a database that keeps its own rules from that row on.
use Rattle.std.proofs.Common.{◌≡◌, ℕ, ℤ, List, ◌++◌, map, filter, Result, Ok, Err, OnOk, IfOk, IsTrue, sym, subst, ◌∙◌, append_assoc, arith}
use Rattle.sqlite.specs.declared.error.Error.{Error}
use Rattle.sqlite.specs.Effect.{IsDatabase}
use Rattle.sqlite.specs.State.{State, HasCleanDisk}
use Rattle.lab_people_access.specs.declared.persons.Person.{Person}
use Rattle.lab_people_access.specs.declared.sessions.Session.{Session}
use Rattle.lab_records_kept.specs.declared.labs.Lab.{Lab}
use Rattle.lab_records_kept.specs.declared.records.FormVersion.{FormVersion}
use Rattle.lab_records_kept.specs.declared.records.Record.{Record}
use Rattle.lab_records_kept.specs.declared.trails.TrailRow.{TrailRow as Told}
use Rattle.lab_records_kept.specs.declared.changes.Change.{Change}
use Rattle.lab_records_kept.specs.declared.changes.Change.TheVariants.{PersonAdded, PersonSet, SessionAdded, FormAdded, RecordAdded, TrailAdded}
use Rattle.lab_store_tables.specs.Changes.{InTurn}
use Rattle.lab_store_tables.specs.Placing.{unasked, is_asked_for}
use Rattle.lab_store_tables.specs.Held.{IsTyped}
use Rattle.lab_store_tables.specs.Ready.{tables_of}
use Rattle.lab_store_tables.specs.ByRules.{IsByRules}
use Rattle.lab_store_tables.specs.Steps.{StepsBy}
use Rattle.lab_store_write.specs.declared.statements.RowId.{RowId}
use Rattle.lab_store_write.specs.Calls.{AnswersUnless, Steps, WritesUnless}
use Rattle.lab_store_write.proofs.Writers.{stays_then}
use Rattle.lab_store_write_changes.proofs.Failures.{failed_so, failed_behind}
use Rattle.lab_store_write_changes.specs.NewbornRows.{AddsLab}
use Rattle.lab_move_write.specs.Placings.{whole_changes, PlacesByRules}
use Rattle.lab_move_write.specs.Private.Turns.{MakesInTurn}
use Rattle.lab_move_write.proofs.Turns.{rules_of, made_then, changes_as}

pub whole_placed : (lab : Lab) (id : ℤ) (a b c : State) → (IsTyped a.now → IsDatabase b.now) → Steps (AddsLab id lab) a b
    → (IsDatabase b.now → Steps (InTurn (StepsBy id) (whole_changes lab)) b c) → IsTrue c.in_transaction → Steps (PlacesByRules lab) a c
whole_placed lab id a b c rules p q inside = record {
  inside = inside;
  made = λ typed.
      let one = p.made typed in
      let two = (q (rules typed)).made one.0 in
      let made = one.1.made in
      let placed : PlacesByRules lab (tables_of a) (tables_of c) = record {
        id = id;
        free = one.1.free;
        rules = subst IsByRules made (rules_of b.now one.0 (rules typed));
        steps = subst (λ t. InTurn (StepsBy id) (whole_changes lab) t (tables_of c)) made two.1;
      } in
      (two.0, placed);
  sound = λ typed _. (q (rules typed)).sound (p.made typed).0 (rules typed);
}

-- ---- of the calls that write it

places_by : {A E : Type 0} (lab : Lab) (id : ℤ) (a b c : State) (r : Result A E) → (IsTyped a.now → IsDatabase b.now) → Steps (AddsLab id lab) a b → OnOk r (IsTrue c.in_transaction)
    → OnOk r (IsDatabase b.now → Steps (InTurn (StepsBy id) (whole_changes lab)) b c) → IfOk r (λ _. Steps (PlacesByRules lab) a c)
places_by lab id a b c (Ok x) rules p inside q = whole_placed lab id a b c rules p q inside
places_by lab id a b c (Err e) rules p inside q = tt

module _ {T A : Type 0} {lender : T → ℕ × ℕ} {state : T → State} {Kept Beside : Type 0} (lab : Lab) where
  pub writes_whole : (row : RowId) {a b c : T} {r : Result A Error} → AnswersUnless (λ _. Kept) lender state (λ (one : RowId). AddsLab one.id lab) a b (Ok row)
      → (IsTrue (state a).in_transaction → HasCleanDisk (state b) → IsTyped (state a).now → IsDatabase (state b).now)
      → MakesInTurn lender state row.id (whole_changes lab) b c r → WritesUnless (λ _. Beside) lender state (PlacesByRules lab) a c r
  writes_whole row {a} {b} {c} {r} p rules q = record {
    stays = stays_then p.stays (λ inside clean. (p.made inside clean).inside) q.stays;
    made = λ inside clean.
        let mid = p.made inside (early clean) in
        places_by lab row.id (state a) (state b) (state c) r (rules inside (early clean)) mid (q.inside mid.inside clean) (q.made mid.inside clean);
    failed = λ inside clean typed.
        let mid = p.made inside (early clean) in
        failed_so state Beside a c r (failed_behind state ⊥ a b c p.stays.survives r (q.failed mid.inside clean (mid.made typed).0));
  }
    where
      early : HasCleanDisk (state c) → HasCleanDisk (state b)
      early clean = let s = q.stays.survives in omega (arith, s.clean)

-- ---- the kinds, which are given as slices

abbrev to_forms : List Person → List Session → List FormVersion → List Change
to_forms persons sessions forms =
    map PersonAdded (map unasked persons) ++ map PersonSet (filter is_asked_for persons) ++ map SessionAdded sessions ++ map FormAdded forms

module _ (lab : Lab) (persons : List Person) (sessions : List Session) (forms : List FormVersion) (records : List Record) (trail : List Told)
    (same_persons : persons ≡ lab.persons) (same_sessions : sessions ≡ lab.sessions) (same_forms : forms ≡ lab.forms)
    (same_records : records ≡ lab.records) (same_trail : trail ≡ lab.trail) where
  all_changes : to_forms persons sessions forms ++ (map RecordAdded records ++ map TrailAdded trail) ≡ whole_changes lab
  all_changes =
      sym (append_assoc (to_forms persons sessions forms) (map RecordAdded records) (map TrailAdded trail))
      ∙ (λ i. to_forms (same_persons i) (same_sessions i) (same_forms i) ++ map RecordAdded (same_records i) ++ map TrailAdded (same_trail i))

  pub kinds_made : {T A : Type 0} {lender : T → ℕ × ℕ} {state : T → State} (id : ℤ) {a b c d e : T} {x y z : A} {r : Result A Error}
      → MakesInTurn lender state id (map PersonAdded (map unasked persons) ++ map PersonSet (filter is_asked_for persons)) a b (Ok x)
      → MakesInTurn lender state id (map SessionAdded sessions) b c (Ok y)
      → MakesInTurn lender state id (map FormAdded forms) c d (Ok z)
      → MakesInTurn lender state id (map RecordAdded records ++ map TrailAdded trail) d e r
      → MakesInTurn lender state id (whole_changes lab) a e r
  kinds_made id p q s u = changes_as all_changes (made_then id (made_then id (made_then id p q) s) u)
