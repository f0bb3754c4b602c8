use Rattle.std.proofs.Common.{ℕ, ◌∙◌, ap, Option}
use Rattle.std.specs.Prelude.{is_some}
use Rattle.lab_records_changes.proofs.Finding.{person_placed}
use Rattle.lab_records_changes.proofs.places.place_of_person.Goals as goal

-- somebody stands in a place where somebody has the code
pub returns-clause-found : goal.returns-clause-found
returns-clause-found c =
    ap (λ (place : Option ℕ). is_some place) c.first_of_code.ensures
    ∙ person_placed c.args.persons.now c.args.code.now
