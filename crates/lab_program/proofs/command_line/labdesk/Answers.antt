-- The task that is done is the one that the words ask for; other words are explained by their fault.
use Rattle.std.proofs.Common.{map, inl, inr}
use Rattle.lab_program_words.proofs.AskLemmas.{asked_is}
use Rattle.lab_program.proofs.DoneLemmas.{never_done}
use Rattle.lab_program_app.proofs.ExplainLemmas.{explained_by, unexplained}
use Rattle.lab_program.proofs.command_line.labdesk.Goals as goal

pub returns-in-Ok-clause-done : goal.returns-in-Ok-clause-done
returns-in-Ok-clause-done g c = λ asked asks. c.do_task.ensures asked
    (asked_is (map g.S.AsStr.text c.args.words.now) c.in-Ok.task asked c.in-Ok.ensures.errand c.in-Ok.ensures.given asks)

pub returns-in-Ok-clause-explained : goal.returns-in-Ok-clause-explained
returns-in-Ok-clause-explained g c = unexplained _ _ _ _ _ _ c.in-Ok.ensures.fault

-- words at no fault come here where memory ran out
pub returns-in-Err-clause-done : goal.returns-in-Err-clause-done
returns-in-Err-clause-done g c = λ asked asks.
    let kind = rw asks.unfaulted at c.in-Err.ensures.fault in
    elim kind [
      | inl memory ↦ never_done g.M.Volume.Disk.Store g.M.Volume.Volume.file _ c.args.host.now.volume _ _ _ _ _ _ asked (g.R.Read.remaining c.args.input) (rw memory at c.explain.ensures)
      | inr other ↦ absurd other
    ]

pub returns-in-Err-clause-explained : goal.returns-in-Err-clause-explained
returns-in-Err-clause-explained g c = explained_by _ _ _ _ _ _ _ c.in-Err.ensures.fault c.explain.ensures
