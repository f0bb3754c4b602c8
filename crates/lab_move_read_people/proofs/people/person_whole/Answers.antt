use Rattle.std.proofs.Common.{w64, Option, ap}
use Rattle.std.proofs.lemmas.Int.{to_z-of_z}
use Rattle.lab_people_access.specs.declared.persons.Ask.{Ask}
use Rattle.lab_people_access.specs.declared.persons.Person.{Person}
use Rattle.lab_move_tables.proofs.Wheres.{where_and}
use Rattle.lab_move_read_people.proofs.Found.{found_ends}
use Rattle.lab_move_read_people.proofs.people.person_whole.Goals as goal

pub returns-in_err-ask : goal.returns-in_err-ask
returns-in_err-ask g c =
    found_ends c.in_err-ask.field-0.0 (rw (to_z-of_z w64 c.args.lab c.ranges.lab) at c.in_err-ask.ensures) (λ t file fails. fails) c.from_residual.result c.from_residual.ensures.1 (λ t wanted. wanted)

pub returns : goal.returns
returns g c =
    let head = c.args.head in
    let with : Option Ask → Person = λ ask. record {
      code = head.code;
      name = head.name;
      roles = head.roles;
      retired = head.retired;
      failures = head.failures;
      locked = head.locked;
      password = head.password;
      ask = ask;
    } in
    where_and (rw (to_z-of_z w64 c.args.lab c.ranges.lab) at c.in_ok-ask.ensures) (λ t file is. (is.0, ap with is.1)) (λ t file wanted is. tt)
