use Rattle.lab_records_laws.proofs.telling_laws.a_step_is_told.Goals as goal
use Rattle.lab_records_laws.proofs.Steps.{step_tells}

pub returns-clause-accepted : goal.returns-clause-accepted
returns-clause-accepted c = λ lab tick instruction is. (step_tells lab tick instruction).accepted is

pub returns-clause-refused : goal.returns-clause-refused
returns-clause-refused c = λ lab tick instruction refusal is. (step_tells lab tick instruction).refused refusal is
