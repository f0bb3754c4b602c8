use Rattle.lab_wire_heads.proofs.RequestLaws.{its_bytes_law}
use Rattle.lab_wire_heads.proofs.receptions.request_is_its_bytes.Goals as goal

pub returns : goal.returns
returns c = its_bytes_law
