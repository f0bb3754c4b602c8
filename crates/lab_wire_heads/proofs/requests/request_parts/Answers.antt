use Rattle.std.proofs.Common.{ap, sym, ◌∙◌, Some, None, Ok}
use Rattle.lab_wire_heads.specs.Heads.{head_received}
use Rattle.lab_wire_heads.proofs.RequestLemmas.{request_refused, request_is}
use Rattle.lab_wire_heads.proofs.requests.request_parts.Goals as goal

pub returns-in-Err-clause-refused : goal.returns-in-Err-clause-refused
returns-in-Err-clause-refused c = request_refused _ _ c.in-Err.ensures.refused

pub returns-in-Some-clause-parts : goal.returns-in-Some-clause-parts
returns-in-Some-clause-parts c =
    let good = head_received c.in-Ok.head in
    let came = rw c.body_length.ensures at c.in-Some.ensures in
    request_is c.args.bytes.now good (Some c.in-Some.body.now) c.in-Ok.ensures.accepted came
    ∙ ap (λ token. Ok (record {
      method = good.head.method;
      target = good.head.target;
      token = token;
      body = c.in-Some.body.now;
    })) (sym c.token_in.ensures)

pub returns-in-None-clause-refused : goal.returns-in-None-clause-refused
returns-in-None-clause-refused c =
    let came = rw c.body_length.ensures at c.in-None.ensures in
    request_is c.args.bytes.now (head_received c.in-Ok.head) None c.in-Ok.ensures.accepted came
