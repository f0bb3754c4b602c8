use Rattle.std.proofs.Common.{◌≡◌, inl, inr, ap, refl, ◌∙◌, arith, rules, true, false}
use Rattle.sqlite_value.specs.Order.{Row}
use Rattle.sqlite_schema.specs.declared.schema.Schema.{Schema}
use Rattle.sqlite.specs.State.{HasCleanDisk}
use Rattle.sqlite.specs.Held.{state}
use Rattle.lab_store_files.specs.Verdicts.{file_verdict}
use Rattle.lab_store_files.specs.Schemas.{has_number}
use Rattle.lab_store_files.proofs.Asking.{verdict_at, ours_taken, ours_named}
use Rattle.lab_store_files.proofs.FaultLemmas.{failed}
use Rattle.lab_store_files.proofs.OwedLemmas.{failed_owed, named_owed, unnamed_owed}
use Rattle.lab_store_files.proofs.opening.open.Goals as goal

pub returns-clause-answer : goal.returns-clause-answer
returns-clause-answer g c clean =
    let old = state g.S.Store c.args.conn.now in
    let new = state g.S.Store c.number_rows.new.conn in
    let rows = c.in_ok-rows.rows.items in
    let same = c.in_ok-rows.ensures.same clean in
    let is = c.verdict.ensures ∙ ap (λ (s : Schema). file_verdict s c.deref.result.now) c.schema-2.ensures.value ∙ ap (file_verdict new.now.schema) c.deref.ensures.value in
    inl (inr (rows, c.in_ok-rows.ensures.shown clean, verdict_at old new rows c.verdict.result same is))

pub returns-clause-ours : goal.returns-clause-ours
returns-clause-ours g c clean before opened kept =
    let old = state g.S.Store c.args.conn.now in
    let new = state g.S.Store c.number_rows.new.conn in
    let rows = c.in_ok-rows.rows.items in
    let same = c.in_ok-rows.ensures.same clean in
    let is = c.verdict.ensures ∙ ap (λ (s : Schema). file_verdict s c.deref.result.now) c.schema-2.ensures.value ∙ ap (file_verdict new.now.schema) c.deref.ensures.value in
    inl (verdict_at old new rows c.verdict.result same is ∙ ours_taken old new rows kept (c.in_ok-rows.ensures.shown clean))

pub returns-then-not-has_number-clause-ours : goal.returns-then-not-has_number-clause-ours
returns-then-not-has_number-clause-ours g c clean before opened kept =
    let old = state g.S.Store c.args.conn.now in
    let unnamed : has_number old.now.schema ≡ false = search rules in
    let named : has_number old.now.schema ≡ true = ours_named old kept in
    absurd cc

pub returns-clause-owed : goal.returns-clause-owed
returns-clause-owed g c clean =
    let old = state g.S.Store c.args.conn.now in
    let new = state g.S.Store c.number_rows.new.conn in
    let rows = c.in_ok-rows.rows.items in
    let same = c.in_ok-rows.ensures.same clean in
    let named : has_number old.now.schema ≡ true = search rules in
    let is = c.verdict.ensures ∙ ap (λ (s : Schema). file_verdict s c.deref.result.now) c.schema-2.ensures.value ∙ ap (file_verdict new.now.schema) c.deref.ensures.value in
    named_owed old new rows c.verdict.result named (c.in_ok-rows.ensures.shown clean) (verdict_at old new rows c.verdict.result same is)

pub returns-then-not-has_number-clause-owed : goal.returns-then-not-has_number-clause-owed
returns-then-not-has_number-clause-owed g c clean =
    let old = state g.S.Store c.args.conn.now in
    let unnamed : has_number old.now.schema ≡ false = search rules in
    unnamed_owed old.now _ unnamed refl

pub returns-in_err-rows-clause-owed : goal.returns-in_err-rows-clause-owed
returns-in_err-rows-clause-owed g c clean =
    let old = state g.S.Store c.args.conn.now in
    let named : has_number old.now.schema ≡ true = search rules in
    failed_owed old.now _ named (search rules)
