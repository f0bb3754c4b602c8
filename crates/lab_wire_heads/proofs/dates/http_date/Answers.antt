use Rattle.std.proofs.Common.{arith}
use Rattle.std.proofs.lemmas.Int.{ints}
use Rattle.std.proofs.lemmas.Result.{IfOk-at_ok}
use Rattle.lab_wire_heads.proofs.DateLemmas.{date_text_is}
use Rattle.lab_wire_heads.proofs.dates.http_date.Goals as goal

pub returns : goal.returns
returns c =
    let seconds = IfOk-at_ok _ c.unwrap.ensures c.from_unix_secs.ensures.value in
    date_text_is c.unwrap.result c.args.moment (omega (arith, ints, seconds, c.seconds.ensures.value))
