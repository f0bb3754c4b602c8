use Rattle.std.proofs.Common.{ap, ◌∙◌, ◌-◌, ◌++◌, ◌∷◌, [], refl}
use Rattle.lab_people_access.specs.Attempts.{failure_count, failures_to_lock}
use Rattle.lab_people_access.specs.Persons.{is_locked}
use Rattle.lab_people.specs.Laws.{person_after}
use Rattle.lab_people.proofs.LawLemmas.{counted_on, last_locks, wrong_locks, unlocked_as_is}
use Rattle.lab_people.proofs.password_laws.repeated_failures_lock.Goals as goal

pub returns-clause-earlier : goal.returns-clause-earlier
returns-clause-earlier c person tries has free wrong few =
    ap (λ one. person_after one tries) (unlocked_as_is person free) ∙ counted_on person person.failures tries has wrong few

pub returns-clause-last : goal.returns-clause-last
returns-clause-last c person before last has free wrong long is =
    ap (λ one. person_after one (before ++ (last ∷ []))) (unlocked_as_is person free)
    ∙ last_locks person person.failures before last has wrong long is

pub returns-clause-locking : goal.returns-clause-locking
returns-clause-locking c person last has free few is =
    wrong_locks person last (failures_to_lock - 1) has (ap (λ locked. is_locked locked last.moment) free) is
    (ap (λ locked. failure_count locked person.failures) free ∙ few) refl
