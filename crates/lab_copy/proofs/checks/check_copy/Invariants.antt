-- the check is of this source, whose count may rise by so many asks
use Rattle.std.proofs.Common.{◌+◌}
use Rattle.lab_copy.specs.Checks.{most_asks}
use Rattle.lab_copy.proofs.checks.check_copy.Given as goal

abbrev pub ghosts-check_asking : goal.ghosts-check_asking
ghosts-check_asking g a = record { name = a.source.ghost_name; most = g.R.ByteSource.asks a.source.now + most_asks }
