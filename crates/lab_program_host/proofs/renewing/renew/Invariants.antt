-- The bytes up to this place were written, and the file is as it was.
use Rattle.std.proofs.Common.{◌-◌, ◌≡◌, ℕ, List, length, IfOk, OnOk, ◌+◌, ◌*◌, ◌<◌, ◌≤◌}
use Rattle.lab_program_host.proofs.renewing.renew.Given as goal

abbrev pub invariant-loop-at : goal.invariant-loop-at
invariant-loop-at g l = record {
  same : g.F.Renewable.is_honest l.file → g.F.Renewable.seen l.file ≡ g.F.Renewable.seen l.fn.file;
  count : g.F.Renewable.is_honest l.file → l.length ≡ length (g.F.Renewable.seen l.fn.file);
  written : (i : ℕ) → i < l.at → g.F.Renewable.written l.file i;
  within : l.at ≤ l.length;
}

abbrev pub decreases-loop-at : goal.decreases-loop-at
decreases-loop-at g l = l.length - l.at
