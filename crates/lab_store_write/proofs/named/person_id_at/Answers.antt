use Rattle.std.proofs.Common.{ℕ, List, filter, refl, subst, ap}
use Rattle.lab_store_tables.specs.Rows.{person_id}
use Rattle.lab_store_tables.specs.Changes.{is_person}
use Rattle.lab_store_read.proofs.Queries.{if_then}
use Rattle.lab_store_write.proofs.Failing.{unnamed_vainly}
use Rattle.lab_store_write.specs.Statements.{asking_person}
use Rattle.lab_store_write.specs.Tried.{Only}
use Rattle.lab_store_write.proofs.Writers.{and_named_by, fails_so_by}
use Rattle.lab_store_write.proofs.KeyLemmas.{person_found}
use Rattle.lab_store_write.proofs.named.person_id_at.Goals as goal

pub returns-in_err-rows : goal.returns-in_err-rows
returns-in_err-rows g c =
    fails_so_by c.in_err-rows.ensures.found {more = Only (asking_person c.args.lab.id c.args.code.now)}
    (λ before tried at it. subst (λ (code : List ℕ). Only (asking_person c.args.lab.id code) before tried at) c.as_str.ensures.value it)
    c.from_residual.result c.from_residual.ensures.1

pub returns : goal.returns
returns g c =
    and_named_by c.in_ok-rows.ensures.found {tries = Only (asking_person c.args.lab.id c.args.code.now)} {one = asking_person c.args.lab.id c.as_str.result.now}
    (λ t. (ap (asking_person c.args.lab.id) c.as_str.ensures.value, refl)) c.in_ok-rows.ensures.shown
    (λ rows. if_then c.first_id.result (λ one is. person_found c.args.lab.id c.args.code.now c.as_str.result.now c.deref.result.now
    c.in_ok-rows.rows.items one.id _ _ c.as_str.ensures.value c.deref.ensures.value rows is) c.first_id.ensures.value)
    (λ t are. unnamed_vainly person_id (filter (is_person c.args.lab.id c.as_str.result.now) t.persons) c.deref.result.now c.in_ok-rows.rows.items
    c.deref.ensures.value are c.first_id.result c.first_id.ensures.fault)
