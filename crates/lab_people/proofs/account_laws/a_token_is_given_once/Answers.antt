use Rattle.lab_people.proofs.LawLemmas.{token_given}
use Rattle.lab_people.proofs.account_laws.a_token_is_given_once.Goals as goal

pub returns : goal.returns
returns c = token_given
