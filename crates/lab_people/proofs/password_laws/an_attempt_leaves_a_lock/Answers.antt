use Rattle.lab_people.proofs.LawLemmas.{locked_attempt}
use Rattle.lab_people.proofs.password_laws.an_attempt_leaves_a_lock.Goals as goal

pub returns : goal.returns
returns c = locked_attempt
