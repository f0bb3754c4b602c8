use Rattle.std.proofs.Common.{rules, sym, lit<}
use Rattle.lab_wire.proofs.Parts.{cut_at, not_cut}
use Rattle.lab_wire.proofs.QueryLemmas.{one_other, too_many}
use Rattle.lab_wire.proofs.queries.range_by.Goals as goal

pub returns-in-Some : goal.returns-in-Some
returns-in-Some c =
    let cut = cut_at 38 (lit< tt) c.args.others.now c.split_once.result c.split_once.ensures.cases _ _ c.in-Some.is in
    sym (too_many c.args.one.now c.args.others.now cut.0)

pub returns-in-None : goal.returns-in-None
returns-in-None c =
    let whole = not_cut 38 (lit< tt) c.args.others.now c.split_once.result c.split_once.ensures.cases c.in-None.is in
    rw (one_other c.args.one.now c.args.others.now whole) (search rules)
