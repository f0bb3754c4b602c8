use Rattle.std.proofs.Common.{sym, ◌∙◌}
use Rattle.std.proofs.lemmas.Result.{IfOk-weaker}
use Rattle.lab_move_tables.proofs.DualDecided.{sound_decided}
use Rattle.lab_move_tables.proofs.sound.is_sound.Goals as goal

pub returns : goal.returns
returns c =
    let decides = sound_decided c.args.lab.now (rw c.lab-lab.ensures.same at c.lab-lab.ensures.chained) in
    IfOk-weaker c.are_sound.result _ _ (λ yes is. (λ h. decides.0 (sym is ∙ h), λ h. is ∙ decides.1 h))
    (rw (c.as_slice.ensures, c.lab-lab.ensures.same) at c.are_sound.ensures)
