use Rattle.lab_wire_heads.proofs.RequestLaws.{by_front_law}
use Rattle.lab_wire_heads.proofs.receptions.request_is_by_front.Goals as goal

pub returns : goal.returns
returns c = by_front_law
