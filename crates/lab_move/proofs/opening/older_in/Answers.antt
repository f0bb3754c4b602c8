use Rattle.std.proofs.Common.{◌≡◌, inl, inr, refl, ap, sym, ◌∙◌, rules, true, false}
use Rattle.std.proofs.lemmas.Result.{err_from_is_err_and}
use Rattle.sqlite_schema.specs.declared.schema.Schema.{Schema}
use Rattle.sqlite.specs.Held.{state}
use Rattle.lab_store_files.specs.Schemas.{has_number}
use Rattle.lab_move_tables.proofs.OldReaders.{may_and, may_end}
use Rattle.lab_move.specs.OldFiles.{old_verdict}
use Rattle.lab_move.proofs.OldVerdicts.{ours_named, ours_taken, not_taken, verdict_at, failed_in, not_empty_in, any_ok, none_asked}
use Rattle.lab_move.proofs.OldOwed.{failed_answered, named_answered, never_stored, unnamed_answered}
use Rattle.lab_move.proofs.opening.older_in.Goals as goal

pub returns-then-not-has_number-clause-ours : goal.returns-then-not-has_number-clause-ours
returns-then-not-has_number-clause-ours g c clean older named =
    let old = state g.S.Store c.args.file.now.conn in
    let unnamed : has_number old.now.schema ≡ false = search rules in
    let is : has_number old.now.schema ≡ true = ours_named older old named in
    absurd cc

pub returns-then-not-has_number-clause-reads : goal.returns-then-not-has_number-clause-reads
returns-then-not-has_number-clause-reads g c = none_asked _ (state g.S.Store c.args.file.now.conn)

pub returns-clause-answer : goal.returns-clause-answer
returns-clause-answer g c clean =
    let old = state g.S.Store c.args.file.now.conn in
    let new = state g.S.Store c.number_rows.new.tables.conn in
    let rows = c.in_ok-rows.rows.items in
    let is = c.verdict.ensures ∙ ap (λ (s : Schema). old_verdict s c.deref.result.now) c.schema-2.ensures.value ∙ ap (old_verdict new.now.schema) c.deref.ensures.value in
    inl (inr (rows, c.in_ok-rows.ensures.shown clean, verdict_at old new rows c.verdict.result (c.in_ok-rows.ensures.reads.shows clean) is))

pub returns-clause-ours : goal.returns-clause-ours
returns-clause-ours g c clean older named =
    let old = state g.S.Store c.args.file.now.conn in
    let new = state g.S.Store c.number_rows.new.tables.conn in
    let rows = c.in_ok-rows.rows.items in
    let is = c.verdict.ensures ∙ ap (λ (s : Schema). old_verdict s c.deref.result.now) c.schema-2.ensures.value ∙ ap (old_verdict new.now.schema) c.deref.ensures.value in
    inl (verdict_at old new rows c.verdict.result (c.in_ok-rows.ensures.reads.shows clean) is ∙ ours_taken older old new rows named (c.in_ok-rows.ensures.shown clean))

pub returns-clause-reads : goal.returns-clause-reads
returns-clause-reads g c = may_and c.in_ok-rows.ensures.reads (λ t file it. any_ok c.verdict.result)

pub returns-clause-fault : goal.returns-clause-fault
returns-clause-fault g c = λ e. not_taken c.schema-2.result.now c.deref.result.now (sym c.verdict.ensures ∙ e)

pub returns-in_err-rows-clause-answer : goal.returns-in_err-rows-clause-answer
returns-in_err-rows-clause-answer g c clean =
    let failed = err_from_is_err_and c.from_residual.result c.from_residual.ensures.1 in
    rw (failed.1, failed.2) (inr (failed_in c.in_err-rows.field-0.0 c.in_err-rows.ensures.fault))

pub returns-in_err-rows-clause-ours : goal.returns-in_err-rows-clause-ours
returns-in_err-rows-clause-ours g c clean older named =
    let failed = err_from_is_err_and c.from_residual.result c.from_residual.ensures.1 in
    rw (failed.1, failed.2) (inr (failed_in c.in_err-rows.field-0.0 c.in_err-rows.ensures.fault))

pub returns-in_err-rows-clause-reads : goal.returns-in_err-rows-clause-reads
returns-in_err-rows-clause-reads g c = may_end c.in_err-rows.ensures.reads c.from_residual.result _ c.from_residual.ensures.1

pub returns-in_err-rows-clause-fault : goal.returns-in_err-rows-clause-fault
returns-in_err-rows-clause-fault g c =
    let failed = err_from_is_err_and c.from_residual.result c.from_residual.ensures.1 in
    rw (failed.1, failed.2) (not_empty_in c.in_err-rows.field-0.0 c.in_err-rows.ensures.fault)

pub returns-then-not-has_number-clause-owed : goal.returns-then-not-has_number-clause-owed
returns-then-not-has_number-clause-owed g c clean =
    let old = state g.S.Store c.args.file.now.conn in
    let unnamed : has_number old.now.schema ≡ false = search rules in
    unnamed_answered old.now _ unnamed refl

pub returns-clause-owed : goal.returns-clause-owed
returns-clause-owed g c clean =
    let old = state g.S.Store c.args.file.now.conn in
    let new = state g.S.Store c.number_rows.new.tables.conn in
    let rows = c.in_ok-rows.rows.items in
    let named : has_number old.now.schema ≡ true = search rules in
    let is = c.verdict.ensures ∙ ap (λ (s : Schema). old_verdict s c.deref.result.now) c.schema-2.ensures.value ∙ ap (old_verdict new.now.schema) c.deref.ensures.value in
    named_answered old new rows c.verdict.result named (c.in_ok-rows.ensures.shown clean) (verdict_at old new rows c.verdict.result (c.in_ok-rows.ensures.reads.shows clean) is)

pub returns-in_err-rows-clause-owed : goal.returns-in_err-rows-clause-owed
returns-in_err-rows-clause-owed g c clean =
    let old = state g.S.Store c.args.file.now.conn in
    let named : has_number old.now.schema ≡ true = search rules in
    let failed = err_from_is_err_and c.from_residual.result c.from_residual.ensures.1 in
    rw (failed.1, failed.2) (failed_answered old.now _ named (failed_in c.in_err-rows.field-0.0 c.in_err-rows.ensures.fault))

pub returns-clause-cause : goal.returns-clause-cause
returns-clause-cause g c clean = never_stored _ c.schema-2.result.now c.deref.result.now c.verdict.result c.verdict.ensures
