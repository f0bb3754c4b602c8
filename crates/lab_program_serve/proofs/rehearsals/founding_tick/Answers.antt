use Rattle.lab_program_serve.proofs.RehearsalLemmas.{is_first_moment}
use Rattle.lab_program_serve.proofs.rehearsals.founding_tick.Goals as goal

pub unwrap-requires : goal.unwrap-requires
unwrap-requires c = is_first_moment c.from_seconds.result c.from_seconds.ensures.fault
