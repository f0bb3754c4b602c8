use Rattle.lab_people.proofs.LawLemmas.{code_given}
use Rattle.lab_people.proofs.account_laws.a_code_is_given_once.Goals as goal

pub returns : goal.returns
returns c = code_given
