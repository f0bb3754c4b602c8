use Rattle.std.proofs.Common.{◌+◌, refl, sym, ◌∙◌}
use Rattle.lab_program_replay.proofs.EventLemmas.{cut_at_none, cut_at_some, take_rest}
use Rattle.lab_program_replay.proofs.event.parts_cut.Goals as goal

pub returns-in_err-at : goal.returns-in_err-at
returns-in_err-at c =
    rw (
      c.from_residual.ensures,
      cut_at_none c.args.byte c.args.text.now
          (sym c.place_of.ensures ∙ c.in_err-at.was),
    ) refl

pub returns : goal.returns
returns c =
    rw (
      cut_at_some c.args.byte c.args.text.now c.in_ok-at.at
          (sym c.place_of.ensures ∙ c.in_ok-at.was),
      take_rest (c.in_ok-at.at + 1) c.args.text.now,
    )
    refl
