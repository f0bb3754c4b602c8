-- at the end stands the end row, or the last version's flaw is told before the missing end
use Rattle.std.proofs.Common.{sym, ◌∙◌}
use Rattle.lab_copy.proofs.KeptLemmas.{ended_at_end, shown_at_end, none_at_end}
use Rattle.lab_copy.proofs.kept.Kept.finish.Goals as goal

pub returns-then-has_ended-clause-value : goal.returns-then-has_ended-clause-value
returns-then-has_ended-clause-value c = ended_at_end c.args.self.now (sym c.has_ended.ensures ∙ c.if-has_ended.true)

pub returns-in-Ok-Some-clause-value : goal.returns-in-Ok-Some-clause-value
returns-in-Ok-Some-clause-value c =
    shown_at_end c.args.self.now c.in-Ok-Some.flaw (sym c.has_ended.ensures ∙ c.if-has_ended.false)
    (sym c.in-Ok-Some.ensures.value ∙ c.in-Ok-Some.field-0-is)

pub returns-in-Ok-None-clause-value : goal.returns-in-Ok-None-clause-value
returns-in-Ok-None-clause-value c =
    none_at_end c.args.self.now (sym c.has_ended.ensures ∙ c.if-has_ended.false)
    (sym c.in-Ok-None.ensures.value ∙ c.in-Ok-None.field-0-is)
