use Rattle.std.proofs.Common.{w64}
use Rattle.std.proofs.lemmas.Int.{to_z-of_z}
use Rattle.lab_move_tables.proofs.Wheres.{where_and}
use Rattle.lab_move_read_people.proofs.Found.{found_ends}
use Rattle.lab_move_read_people.proofs.trails.told_whole.Goals as goal

pub returns-in_err-person : goal.returns-in_err-person
returns-in_err-person g c =
    found_ends c.in_err-person.field-0.0 (rw (to_z-of_z w64 c.args.lab c.ranges.lab) at c.in_err-person.ensures) (λ t file fails. fails) c.from_residual.result c.from_residual.ensures.1 (λ t wanted. wanted)

pub returns : goal.returns
returns g c =
    where_and (rw (to_z-of_z w64 c.args.lab c.ranges.lab) at c.in_ok-person.ensures) (λ t file is.
    (is.0, λ i. record { number = c.args.head.number; moment = c.args.head.moment; person = is.1 i; action = c.args.head.action; subject = c.args.head.subject })) (λ t file wanted is. tt)
