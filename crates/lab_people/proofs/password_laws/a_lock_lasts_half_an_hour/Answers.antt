use Rattle.std.proofs.Common.{ap, ◌∙◌, Some, refl}
use Rattle.std.specs.Prelude.{option_and_then}
use Rattle.lab_people_access.specs.Persons.{is_locked}
use Rattle.lab_people_access.specs.Attempts.{failure_count}
use Rattle.lab_people.proofs.LawLemmas.{right_attempt, wrong_counted}
use Rattle.lab_people.proofs.password_laws.a_lock_lasts_half_an_hour.Goals as goal

pub returns-clause-accepted : goal.returns-clause-accepted
returns-clause-accepted c person text since moment has at free right =
    right_attempt person text moment has (ap (λ locked. is_locked locked moment) at ∙ free) right

pub returns-clause-first : goal.returns-clause-first
returns-clause-first c person one since has at free wrong =
    ap (option_and_then (λ left. Some left))
    (wrong_counted person one 0 has (ap (λ locked. is_locked locked one.moment) at ∙ free) wrong (ap (λ locked. failure_count locked person.failures) at) refl)
