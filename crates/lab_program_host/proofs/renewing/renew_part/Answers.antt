-- What was put is what was read.
use Rattle.lab_program_host.proofs.RenewLemmas.{part_same}
use Rattle.lab_program_host.proofs.renewing.renew_part.Goals as goal

pub returns-clause-same : goal.returns-clause-same
returns-clause-same g c =
    part_same c.write.result (g.F.Renewable.is_honest c.read.new.self) (g.F.Renewable.is_honest c.write.new.self)
    c.args.at c.read.new.bytes _ _ _ c.write.ensures.honest c.in_ok-read.ensures.read c.in_ok-read.ensures.same c.write.ensures.put
