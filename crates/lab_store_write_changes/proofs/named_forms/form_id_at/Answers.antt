use Rattle.std.proofs.Common.{ℕ, List, filter, refl, subst, ap}
use Rattle.lab_store_tables.specs.Rows.{form_id}
use Rattle.lab_store_tables.specs.Changes.{is_form_row}
use Rattle.lab_store_read.proofs.Queries.{if_then}
use Rattle.lab_store_write.proofs.Failing.{unnamed_vainly}
use Rattle.lab_store_write_changes.specs.Statements.{asking_form}
use Rattle.lab_store_write.specs.Tried.{Only}
use Rattle.lab_store_write.proofs.Writers.{and_named_by, fails_so_by}
use Rattle.lab_store_write_changes.proofs.RecordKeyLemmas.{form_found}
use Rattle.lab_store_write_changes.proofs.named_forms.form_id_at.Goals as goal

pub returns-in_err-rows : goal.returns-in_err-rows
returns-in_err-rows g c =
    fails_so_by c.in_err-rows.ensures.found {more = Only (asking_form c.args.lab.id c.args.code.now c.args.version)}
    (λ before tried at it. subst (λ (code : List ℕ). Only (asking_form c.args.lab.id code c.args.version) before tried at) c.as_str.ensures.value it)
    c.from_residual.result c.from_residual.ensures.1

pub returns : goal.returns
returns g c =
    and_named_by c.in_ok-rows.ensures.found {tries = Only (asking_form c.args.lab.id c.args.code.now c.args.version)} {one = asking_form c.args.lab.id c.as_str.result.now c.args.version}
    (λ t. (ap (λ (code : List ℕ). asking_form c.args.lab.id code c.args.version) c.as_str.ensures.value, refl)) c.in_ok-rows.ensures.shown
    (λ rows. if_then c.first_id.result (λ one is. form_found c.args.lab.id c.args.code.now c.as_str.result.now
    c.args.version c.args.version c.deref.result.now c.in_ok-rows.rows.items one.id _ _ c.as_str.ensures.value refl c.deref.ensures.value rows is)
    c.first_id.ensures.value)
    (λ t are. unnamed_vainly form_id (filter (is_form_row c.args.lab.id c.as_str.result.now c.args.version) t.forms) c.deref.result.now c.in_ok-rows.rows.items
    c.deref.ensures.value are c.first_id.result c.first_id.ensures.fault)
