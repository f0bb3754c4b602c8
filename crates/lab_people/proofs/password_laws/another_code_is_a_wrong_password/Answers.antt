use Rattle.lab_people.proofs.LawLemmas.{other_attempt}
use Rattle.lab_people.proofs.password_laws.another_code_is_a_wrong_password.Goals as goal

pub returns : goal.returns
returns c = other_attempt
