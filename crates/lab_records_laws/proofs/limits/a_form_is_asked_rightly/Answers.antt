use Rattle.lab_records_laws.proofs.limits.a_form_is_asked_rightly.Goals as goal
use Rattle.lab_records_laws.proofs.FormedLemmas.{formed_is_right}

pub returns : goal.returns
returns c = λ instruction formed. formed_is_right instruction.command formed
