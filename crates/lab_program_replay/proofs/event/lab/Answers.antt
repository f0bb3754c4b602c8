use Rattle.lab_program_replay.proofs.EventLemmas.{lab_code-not_text}
use Rattle.lab_program_replay.proofs.event.lab.Goals as goal

pub returns-in_default : goal.returns-in_default
returns-in_default c = lab_code-not_text c.args.text.now c.in_default.ensures.cases.0
