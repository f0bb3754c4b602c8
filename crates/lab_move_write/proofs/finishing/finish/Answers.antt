use Rattle.std.proofs.Common.{Ok, sym, ◌∙◌}
use Rattle.sqlite.specs.Held.{state}
use Rattle.lab_store_tables.specs.Ready.{IsMadeBy}
use Rattle.lab_store_write.proofs.Transactions.{isnt_memory}
use Rattle.lab_move_write.specs.Namings.{NamesSchema}
use Rattle.lab_move_write.specs.Unfinished.{Finishes}
use Rattle.lab_move_write.proofs.Commits.{told_ok, told_err, makes_weaker}
use Rattle.lab_move_write.proofs.NamingLemmas.{finishes}
use Rattle.lab_move_write.proofs.finishing.finish.Goals as goal

pub returns-in-Ok-clause-finished : goal.returns-in-Ok-clause-finished
returns-in-Ok-clause-finished g c =
    let old = state g.S.Store c.args.conn.now in
    told_ok tt tt (makes_weaker (IsMadeBy NamesSchema old) (Finishes old.now) (Ok tt) (finishes old.now) c.in-Ok.ensures.ends)

pub returns-in-Err-clause-finished : goal.returns-in-Err-clause-finished
returns-in-Err-clause-finished g c =
    let old = state g.S.Store c.args.conn.now in
    told_err _ _ (makes_weaker (IsMadeBy NamesSchema old) (Finishes old.now) _ (finishes old.now) c.in-Err.ensures.ends)

pub returns-in-Err-clause-cause : goal.returns-in-Err-clause-cause
returns-in-Err-clause-cause g c clean told = c.in-Err.ensures.cause clean (isnt_memory c.in-Err.error (sym c.read_fault.ensures ∙ told))
