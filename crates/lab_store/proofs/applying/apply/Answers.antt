use Rattle.std.proofs.Common.{◌≡◌, ℤ, inl, inr, find, Some, Err, w64, to_z, of_z, SFits, IsTrue, rules, sym, subst, ◌∙◌}
use Rattle.std.proofs.lemmas.Int.{to_z-of_z}
use Rattle.sqlite.specs.Held.{state}
use Rattle.sqlite.specs.State.{HasCleanDisk}
use Rattle.lab_forms_texts.specs.declared.refusals.Fault.{Fault}
use Rattle.lab_records_keeper.specs.declared.faults.BadStore.{BadStore}
use Rattle.lab_store_write_changes.specs.Causes.{OneIsTooMuch}
use Rattle.lab_store_read.specs.Causes.{HasFirst}
use Rattle.lab_store_read_records.specs.Readable.{HasLab}
use Rattle.lab_store_read_records.specs.Shown.{labs_shown}
use Rattle.lab_store_tables.specs.Rows.{Tables}
use Rattle.lab_store_tables.specs.Meaning.{has_code}
use Rattle.lab_store_write_changes.specs.Tried.{TriesAll}
use Rattle.lab_store.specs.Causes.{RefusesChanges, TriesOf}
use Rattle.lab_store_write.proofs.Transactions.{isnt_memory}
use Rattle.lab_store.proofs.Causes.{told_after_trying, told_as}
use Rattle.lab_store.proofs.After.{ends_ok, ends_err, found_row, counted_now}
use Rattle.lab_store.proofs.applying.apply.Goals as goal

pub returns-in-Ok-clause-ends : goal.returns-in-Ok-clause-ends
returns-in-Ok-clause-ends g c ready =
    let keeping = c.requires.keeping in
    let old = state g.S.Store c.args.tables.now.conn in
    let middle = state g.S.Store c.lab_id_at.new.conn.conn in
    let new = state g.S.Store c.commit_all.new.conn in
    let reads = c.in_ok-found.ensures.reads in
    let opened : HasCleanDisk middle → IsTrue old.is_open = c.in_ok-found.ensures.opened keeping.opened in
    let fits : SFits w64 c.in-Some.id = search rules in
    ends_ok c.args.code.now c.args.changes.now old middle new ready reads.passes (λ clean. reads.same clean (opened clean)) (to_z w64 (of_z w64 c.in-Some.id))
    (λ clean. let row = found_row _ c.in-Some.id (sym c.in-Some.is ∙ reads.answer ready clean (counted_now old c.args.counted.now keeping ready (reads.passes.clean clean) (opened clean))) in
    (row.0, row.1, row.2 ∙ sym (to_z-of_z w64 c.in-Some.id fits)))
    (Fault BadStore) _ tt c.in-Ok.ensures.ends

pub returns-in-Err-clause-ends : goal.returns-in-Err-clause-ends
returns-in-Err-clause-ends g c ready =
    let keeping = c.requires.keeping in
    let old = state g.S.Store c.args.tables.now.conn in
    let middle = state g.S.Store c.lab_id_at.new.conn.conn in
    let new = state g.S.Store c.commit_all.new.conn in
    let reads = c.in_ok-found.ensures.reads in
    let opened : HasCleanDisk middle → IsTrue old.is_open = c.in_ok-found.ensures.opened keeping.opened in
    let fits : SFits w64 c.in-Some.id = search rules in
    ends_err c.args.code.now c.args.changes.now old middle new ready reads.passes (λ clean. reads.same clean (opened clean)) (to_z w64 (of_z w64 c.in-Some.id))
    (λ clean. let row = found_row _ c.in-Some.id (sym c.in-Some.is ∙ reads.answer ready clean (counted_now old c.args.counted.now keeping ready (reads.passes.clean clean) (opened clean))) in
    (row.0, row.1, row.2 ∙ sym (to_z-of_z w64 c.in-Some.id fits)))
    _ c.in-Err.error c.read_fault.result c.in-Err.ensures.ends

pub returns-in_default-clause-cause : goal.returns-in_default-clause-cause
returns-in_default-clause-cause g c =
    let keeping = c.requires.keeping in
    let old = state g.S.Store c.args.tables.now.conn in
    let it = c.in_ok-found.ensures in
    record {
      limit = it.cause.limit;
      cause = λ ready clean readable told.
          let is = it.reads.answer ready clean (counted_now old c.args.counted.now keeping ready (it.reads.passes.clean clean) (it.opened keeping.opened clean)) in
          inr (inl (inl (sym is ∙ c.in_default.is, λ none. absurd (let filled = rw none at (sym c.is_empty.ensures ∙ c.if-is_empty.false) in cc))));
    }

pub returns-in-Err-clause-cause : goal.returns-in-Err-clause-cause
returns-in-Err-clause-cause g c =
    let it = c.in_ok-found.ensures in
    let keeping = c.requires.keeping in
    let old = state g.S.Store c.args.tables.now.conn in
    let changes = c.args.changes.now in
    let code = c.args.code.now in
    let id = to_z w64 (of_z w64 c.in-Some.id) in
    let fits : SFits w64 c.in-Some.id = search rules in
    told_after_trying g.S.Store (λ t. OneIsTooMuch changes) (RefusesChanges code changes) c.args.tables.now.conn c.lab_id_at.new.conn.conn c.commit_all.new.conn it.reads.passes
    (λ clean. it.reads.same clean (it.opened keeping.opened clean)) it.cause.limit c.in-Err.ensures.ends.clean (λ much. inr much)
    (TriesAll id changes) (TriesOf code changes)
    (λ ready clean t same tried at own.
    let row = found_row _ c.in-Some.id (sym c.in-Some.is ∙ it.reads.answer ready clean (counted_now old c.args.counted.now keeping ready (it.reads.passes.clean clean) (it.opened keeping.opened clean))) in (
      row.0,
      subst (λ (one : Tables). find (has_code code) one.labs ≡ Some row.0) (sym same) row.1,
      subst (λ (lab : ℤ). TriesAll lab changes t tried at) (sym (row.2 ∙ sym (to_z-of_z w64 c.in-Some.id fits))) own,
    ))
    (λ t. HasFirst HasLab (labs_shown t code)) (Err c.read_fault.result)
    (told_as g.S.Store c.in-Err.error c.read_fault.result (λ told. isnt_memory c.in-Err.error (sym c.read_fault.ensures ∙ told)) c.in-Err.ensures.cause)
