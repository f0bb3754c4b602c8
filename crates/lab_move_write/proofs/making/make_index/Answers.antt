use Rattle.std.proofs.Common.{refl}
use Rattle.lab_store_tables.proofs.SchemaWords.{sessions_of_person_text}
use Rattle.lab_move_write.proofs.MadeTables.{index_makes_all}
use Rattle.lab_move_write.proofs.making.make_index.Goals as goal

pub returns : goal.returns
returns g c = index_makes_all sessions_of_person_text c.run.ensures.stays c.run.ensures.runs refl
