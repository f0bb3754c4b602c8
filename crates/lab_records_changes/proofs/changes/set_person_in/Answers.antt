-- The person of the code is the first that has it, and its place is where the search ended.
use Rattle.std.proofs.Common.{◌≡◌, ◌∙◌, sym, ap, Some, None}
use Rattle.std.specs.Prelude.{position, bytes_eq, slice_set}
use Rattle.lab_people_access.specs.declared.persons.Person.{Person}
use Rattle.lab_records_changes.proofs.Replacing.{with_person_at, with_person_none}
use Rattle.lab_records_changes.proofs.changes.set_person_in.Goals as goal

pub returns-in_default-clause-ok : goal.returns-in_default-clause-ok
returns-in_default-clause-ok c =
    let persons = c.args.persons.now in
    let none : position (λ one. bytes_eq one.code c.args.person.now.code) persons ≡ None = cc in
    sym (with_person_none c.args.person.now persons none)

pub returns-clause-ok : goal.returns-clause-ok
returns-clause-ok c =
    let persons = c.args.persons.now in
    let place = c.in-Some.place in
    let found : position (λ one. bytes_eq one.code c.args.person.now.code) persons ≡ Some place = cc in
    ap (λ (made : Person). slice_set persons place made) c.in_ok-person.ensures
    ∙ sym (with_person_at c.args.person.now persons place c.index-persons-place.result found
    c.index-persons-place.is)
