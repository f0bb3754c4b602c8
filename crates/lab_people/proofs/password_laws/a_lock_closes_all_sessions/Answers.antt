use Rattle.lab_people.proofs.LawLemmas.{lock_closes}
use Rattle.lab_people.proofs.password_laws.a_lock_closes_all_sessions.Goals as goal

pub returns : goal.returns
returns c = lock_closes
