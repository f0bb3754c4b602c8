use Rattle.std.proofs.Common.{w64, SFits, rules}
use Rattle.std.proofs.lemmas.Int.{to_z-of_z}
use Rattle.lab_move_tables.proofs.Wheres.{where_by_schema, where_both}
use Rattle.lab_move_read_people.proofs.Found.{both_pass, first_fails, last_fails, found_ends, then_ends}
use Rattle.lab_move_read.proofs.wholes.people_at.Goals as goal

pub returns-in_err-persons : goal.returns-in_err-persons
returns-in_err-persons g c =
    let id_fits : SFits w64 c.args.head.now.id = search rules in
    found_ends c.in_err-persons.field-0.0 (rw (to_z-of_z w64 c.args.head.now.id id_fits) at c.in_err-persons.ensures) (λ t file fails. first_fails _ _ fails) c.from_residual.result c.from_residual.ensures.1 (λ t wanted. wanted.persons)

pub returns-in_err-sessions : goal.returns-in_err-sessions
returns-in_err-sessions g c =
    let id_fits : SFits w64 c.args.head.now.id = search rules in
    then_ends c.in_ok-persons.ensures c.in_err-sessions.field-0.0 (where_by_schema (rw (to_z-of_z w64 c.args.head.now.id id_fits) at c.in_err-sessions.ensures))
    (λ t file was fails. last_fails _ _ fails) (λ t file wanted was. wanted.sessions) c.from_residual-in_err-sessions.result c.from_residual-in_err-sessions.ensures.1

pub returns : goal.returns
returns g c =
    let head = c.args.head.now in
    let id_fits : SFits w64 head.id = search rules in
    where_both (rw (to_z-of_z w64 head.id id_fits) at c.in_ok-persons.ensures) (where_by_schema (rw (to_z-of_z w64 head.id id_fits) at c.in_ok-sessions.ensures))
    (λ t file persons sessions. (both_pass _ _ persons.0 sessions.0, λ i. record { persons = persons.1 i; sessions = sessions.1 i })) (λ t file wanted persons sessions. tt)
