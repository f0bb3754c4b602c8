use Rattle.std.proofs.lemmas.Result.{on_ok_weaker}
use Rattle.lab_store_write.proofs.Writers.{fails_so, then_fails, two_and_its, beside_none}
use Rattle.lab_store_write_changes.proofs.AllRows.{rows_added}
use Rattle.lab_store_write_changes.proofs.rows.add_rows.Goals as goal

pub returns-in_err-row : goal.returns-in_err-row
returns-in_err-row g c = fails_so c.in_err-row.ensures.writes c.from_residual.result c.from_residual.ensures.1

pub returns-in_err-add_persons : goal.returns-in_err-add_persons
returns-in_err-add_persons g c =
    then_fails c.in_ok-row.ensures.writes (beside_none c.in_err-add_persons.ensures) c.from_residual-in_err-add_persons.result c.from_residual-in_err-add_persons.ensures.1

pub returns : goal.returns
returns g c =
    two_and_its c.in_ok-row.ensures.writes c.in_ok-add_persons.ensures (beside_none c.add_trail.ensures) (λ inside early placed enrolled told.
    on_ok_weaker c.add_trail.result (rows_added c.args.lab.now c.in_ok-row.row.id c.as_slice.result.now c.as_slice-2.result.now _ _ _ _
    (c.in_ok-row.ensures.rules inside early) c.as_slice.ensures c.as_slice-2.ensures placed enrolled) told)
