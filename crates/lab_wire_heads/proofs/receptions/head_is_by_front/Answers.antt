use Rattle.lab_wire_heads.proofs.RequestLaws.{head_law}
use Rattle.lab_wire_heads.proofs.receptions.head_is_by_front.Goals as goal

pub returns : goal.returns
returns c = head_law
