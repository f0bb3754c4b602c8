use Rattle.std.proofs.Common.{filter, refl}
use Rattle.lab_store_tables.specs.Rows.{record_id}
use Rattle.lab_store_tables.specs.Changes.{is_record_row}
use Rattle.lab_store_read.proofs.Queries.{if_then}
use Rattle.lab_store_write.proofs.Failing.{unnamed_vainly}
use Rattle.lab_store_write_changes.specs.Statements.{asking_record}
use Rattle.lab_store_write.specs.Tried.{Only}
use Rattle.lab_store_write.proofs.Writers.{and_named_by, fails_so_by}
use Rattle.lab_store_write_changes.proofs.EntryKeyLemmas.{record_found}
use Rattle.lab_store_write_changes.proofs.named.record_at.Goals as goal

pub returns-in_err-rows : goal.returns-in_err-rows
returns-in_err-rows g c = fails_so_by c.in_err-rows.ensures.found {more = Only (asking_record c.args.lab.id c.args.wanted)} (λ before tried at it. it) c.from_residual.result c.from_residual.ensures.1

pub returns : goal.returns
returns g c =
    and_named_by c.in_ok-rows.ensures.found {tries = Only (asking_record c.args.lab.id c.args.wanted)} {one = asking_record c.args.lab.id c.args.wanted} (λ _. (refl, refl)) c.in_ok-rows.ensures.shown
    (λ rows. if_then c.first_id.result (λ one is. record_found c.args.lab.id c.args.wanted c.args.wanted
    c.deref.result.now c.in_ok-rows.rows.items one.id _ _ refl c.deref.ensures.value rows is) c.first_id.ensures.value)
    (λ t are. unnamed_vainly record_id (filter (is_record_row c.args.lab.id c.args.wanted) t.records) c.deref.result.now c.in_ok-rows.rows.items
    c.deref.ensures.value are c.first_id.result c.first_id.ensures.fault)
