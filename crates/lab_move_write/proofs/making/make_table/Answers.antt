use Rattle.lab_move_write.proofs.MadeTables.{table_makes}
use Rattle.lab_move_write.proofs.making.make_table.Goals as goal

pub returns : goal.returns
returns g c i d within is = table_makes c.args.text.now c.run.ensures.stays c.run.ensures.runs i d within is
