use Rattle.std.proofs.Common.{w64, ◌∙◌}
use Rattle.std.proofs.lemmas.Int.{to_z-of_z}
use Rattle.lab_move_tables.proofs.Wheres.{where_by_schema}
use Rattle.lab_move_read_people.proofs.Found.{first_fails, found_ends, rows_then}
use Rattle.lab_move_read.proofs.RecordsFound.{records_done}
use Rattle.lab_move_read.proofs.ReadableParts.{all_record_parts}
use Rattle.lab_move_read.proofs.filed.records_at.Goals as goal

pub returns-in_err-heads-clause-tries : goal.returns-in_err-heads-clause-tries
returns-in_err-heads-clause-tries g c =
    found_ends c.in_err-heads.field-0.0 (where_by_schema (rw (to_z-of_z w64 c.args.lab c.ranges.lab) at c.in_err-heads.ensures)) (λ t file fails. first_fails _ _ fails) c.from_residual.result c.from_residual.ensures.1 (λ t wanted. (wanted.taken, wanted.rows))

pub returns-clause-tries : goal.returns-clause-tries
returns-clause-tries g c =
    rows_then (where_by_schema (rw (to_z-of_z w64 c.args.lab c.ranges.lab) at c.in_ok-heads.ensures)) c.records_whole.result (rw (to_z-of_z w64 c.args.lab c.ranges.lab) at c.records_whole.ensures.tries)
    (λ t file given. let it = records_done t c.args.lab c.args.code.now c.args.forms.now c.args.count c.in_ok-heads.heads.items given.0 given.1 in (it.0, λ made is. is ∙ it.1))
    (λ t file wanted given. all_record_parts c.args.older t (g.D.Readable.state c.args.conn.now).now c.args.lab c.in_ok-heads.heads.items given.1 wanted.parts)

pub returns-clause-chained : goal.returns-clause-chained
returns-clause-chained g c = c.records_whole.ensures.chained
