use Rattle.std.proofs.Common.{sym, ◌+◌, ◌∙◌}
use Rattle.lab_copy.specs.Fronts.{so_far}
use Rattle.lab_copy.proofs.PassLemmas.{gives_cut, passes_one}
use Rattle.lab_copy.proofs.fronts.RowSoFar.pass.Goals as goal

pub returns-then-is_too_long-clause-passed : goal.returns-then-is_too_long-clause-passed
returns-then-is_too_long-clause-passed c =
    gives_cut (so_far c.args.self.now) (so_far c.after.result) c.args.bytes.now (c.loop-at.at + 1)
    (sym c.is_too_long.ensures ∙ c.if-is_too_long.true)
    (passes_one (so_far c.args.self.now) (so_far c.loop-at.self) (so_far c.after.result) c.args.bytes.now c.loop-at.at
    c.loop-at-test.true c.loop-at.invariant.short c.after.ensures c.loop-at.invariant.passed)

pub loop-at-preserved : goal.loop-at-preserved
loop-at-preserved c =
    record {
      short = sym c.is_too_long.ensures ∙ c.if-is_too_long.false;
      passed = passes_one (so_far c.args.self.now) (so_far c.loop-at.self) (so_far c.after.result) c.args.bytes.now c.loop-at.at
          c.loop-at-test.true c.loop-at.invariant.short c.after.ensures c.loop-at.invariant.passed;
    }
