-- A row more whose id is wanted: the connection tells it, and it is the next one.
use Rattle.std.proofs.Common.{◌≡◌, ◌⊎◌, inr, ℕ, ℤ, List, Result, Ok, Err, IfOk, IfErr, IsTrue, sym, ap, ◌∙◌, subst}
use Rattle.sqlite_value.specs.Order.{Row}
use Rattle.sqlite.specs.declared.error.Error.{Error}
use Rattle.sqlite.specs.State.{State, HasCleanDisk, Executes, ExecutesInside}
use Rattle.lab_store_read.proofs.Queries.{if_then}
use Rattle.lab_store_tables.specs.Rows.{Tables}
use Rattle.lab_store_tables.specs.Held.{IsTyped}
use Rattle.lab_store_tables.specs.Ready.{tables_of}
use Rattle.lab_store_write.specs.declared.statements.RowId.{RowId}
use Rattle.lab_store_write.specs.Calls.{Stays, AnswersTrying}
use Rattle.lab_store_write.specs.Private.Calls.{AnswersCall}
use Rattle.lab_store_write.specs.Causes.{is_writing, statement, Statement, Tries, Anything, FailsTrying, IsOurs}
use Rattle.lab_store_write.specs.Tried.{Only}
use Rattle.lab_store_write.proofs.Failing.{fails_trying}
use Rattle.lab_store_write.proofs.Inside.{Wrote}

module _ {T : Type 0} {lender : T → ℕ × ℕ} {state : T → State} {old new : T} where
  -- a statement that makes these tables of one row more; its parameters are given in other words
  pub placed_by : {tries : Tries} (sql : List ℕ) (params : Row) → IsOurs is_writing sql params → ((t : Tables) → tries t (statement sql params) t) → (made : Tables → Tables) (next : Tables → ℤ)
      {given : Row} {r : Result RowId Error} → Stays lender state old new → given ≡ params
      → (IsTrue (state old).in_transaction → HasCleanDisk (state new)
      → IfOk r (λ one. (count : ℕ) × ExecutesInside 0 sql given (state old) (state new) (Ok count) × (one.id ≡ (state new).last_rowid)))
      → ((count : ℕ) → IsTyped (state old).now → Executes sql params (state old) (state new) (Ok count)
      → Wrote (made (tables_of (state old))) (state new).now × ((state new).last_rowid ≡ next (tables_of (state old))))
      → (IsOurs is_writing sql given → IsTrue (state old).in_transaction → HasCleanDisk (state new) → IsTyped (state old).now
      → IfErr r (FailsTrying (Only (statement sql given)) state old new))
      → AnswersTrying tries lender state (λ (one : RowId) before after. (one.id ≡ next before) × (after ≡ made before)) old new r
  placed_by {tries} sql params ours own made next {given} {r} stays same ran wrote fails = record {
    failed = λ inside clean typed. badly r (fails (subst (IsOurs is_writing sql) (sym same) ours) inside clean typed);
    stays = stays;
    made = λ inside clean. if_then r (λ one it.
        let told : ExecutesInside 0 sql params (state old) (state new) (Ok it.0) =
        subst (λ (row : Row). ExecutesInside 0 sql row (state old) (state new) (Ok it.0)) same it.1 in
        record {
          inside = told.1.mode;
          made = λ typed. let row = wrote it.0 typed told.0 in (row.0.held.typed, (it.2 ∙ row.1, row.0.held.tables));
          sound = λ typed _. (wrote it.0 typed told.0).0.sound;
        }) (ran inside clean);
  }
    where
      sent : (tried : Statement) (at : Tables) → Only (statement sql given) (tables_of (state old)) tried at → tries (tables_of (state old)) tried at
      sent tried at it =
          subst (λ (one : Statement). tries (tables_of (state old)) one at) (sym (it.0 ∙ ap (statement sql) same))
          (subst (λ (t : Tables). tries (tables_of (state old)) (statement sql params) t) (sym it.1) (own (tables_of (state old))))

      badly : (r : Result RowId Error) → IfErr r (FailsTrying (Only (statement sql given)) state old new) → IfErr r (λ e. ⊥ ⊎ FailsTrying tries state old new e)
      badly (Ok one) bad = tt
      badly (Err e) bad = inr (fails_trying state tries old new e sent bad)

  -- it isn't said what is tried
  pub placed : (sql : List ℕ) (params : Row) → IsOurs is_writing sql params → (made : Tables → Tables) (next : Tables → ℤ) {given : Row} {r : Result RowId Error} → Stays lender state old new → given ≡ params
      → (IsTrue (state old).in_transaction → HasCleanDisk (state new)
      → IfOk r (λ one. (count : ℕ) × ExecutesInside 0 sql given (state old) (state new) (Ok count) × (one.id ≡ (state new).last_rowid)))
      → ((count : ℕ) → IsTyped (state old).now → Executes sql params (state old) (state new) (Ok count)
      → Wrote (made (tables_of (state old))) (state new).now × ((state new).last_rowid ≡ next (tables_of (state old))))
      → (IsOurs is_writing sql given → IsTrue (state old).in_transaction → HasCleanDisk (state new) → IsTyped (state old).now
      → IfErr r (FailsTrying (Only (statement sql given)) state old new))
      → AnswersCall lender state (λ (one : RowId) before after. (one.id ≡ next before) × (after ≡ made before)) old new r
  placed sql params ours made next stays same ran wrote fails = placed_by {tries = Anything} sql params ours (λ _. tt) made next stays same ran wrote fails
