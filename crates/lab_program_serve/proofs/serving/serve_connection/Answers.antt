use Rattle.lab_desk_events.proofs.Lasting.{still_stays}
use Rattle.lab_program_serve.proofs.serving.serve_connection.Goals as goal

pub returns-in_default-clause-stays : goal.returns-in_default-clause-stays
returns-in_default-clause-stays g c = λ within honest reached.
    still_stays (g.S.Keeper.world c.args.desk.now.keeper) reached
