use Rattle.std.proofs.Common.{w64, ◌∙◌}
use Rattle.std.proofs.lemmas.Int.{to_z-of_z}
use Rattle.lab_move_tables.proofs.Wheres.{where_by_schema}
use Rattle.lab_move_read_people.proofs.Found.{rows_then, store_ends}
use Rattle.lab_move_read_people.proofs.PeopleFound.{persons_done}
use Rattle.lab_move_read_people.proofs.ReadableRows.{all_askers}
use Rattle.lab_move_read_people.proofs.people.persons_at.Goals as goal

pub returns-in_err-heads : goal.returns-in_err-heads
returns-in_err-heads g c = store_ends (rw (to_z-of_z w64 c.args.lab c.ranges.lab) at c.in_err-heads.ensures) c.from_residual.result c.from_residual.ensures.1 (λ t wanted. (wanted.taken, wanted.rows))

pub returns : goal.returns
returns g c =
    rows_then (rw (to_z-of_z w64 c.args.lab c.ranges.lab) at c.in_ok-heads.ensures) c.persons_whole.result (where_by_schema (rw (to_z-of_z w64 c.args.lab c.ranges.lab) at c.persons_whole.ensures))
    (λ t file given. let it = persons_done t c.args.lab c.in_ok-heads.heads.items given in (it.0, λ made is. is ∙ it.1))
    (λ t file wanted given. all_askers c.args.older t file.lifted (g.D.Readable.state c.args.conn.now).now c.args.lab c.in_ok-heads.heads.items given wanted.askers)
