use Rattle.std.proofs.Common.{option_map, ap}
use Rattle.lab_store_write.specs.Givers.{Knows}
use Rattle.lab_store_write.specs.Private.Persons.{asker_in}
use Rattle.lab_store_write.specs.Tried.{TriesIfAny}
use Rattle.lab_store_write.proofs.Writers.{and_so, nothing_asked, fails_so_by}
use Rattle.lab_store_write.proofs.KeyLemmas.{named_some, named_none}
use Rattle.lab_store_write.proofs.persons.asker_if_any.Goals as goal

pub returns-in_err-asker-in-Some : goal.returns-in_err-asker-in-Some
returns-in_err-asker-in-Some g c =
    fails_so_by c.in_err-asker-in-Some.ensures {more = TriesIfAny c.args.lab.id (option_map asker_in c.args.ask.now)}
    (λ before tried at it. (c.in-Some.ask.asker, ap (option_map asker_in) c.in-Some.is, it))
    c.from_residual.result c.from_residual.ensures.1

pub returns-in_ok-asker-in-Some : goal.returns-in_ok-asker-in-Some
returns-in_ok-asker-in-Some g c =
    and_so c.in_ok-asker-in-Some.ensures (named_some c.args.lab.id (Knows c.args.lab.id c.args.giver) c.in-Some.ask.asker (option_map asker_in c.args.ask.now)
    c.in_ok-asker-in-Some.asker.id _ _ (ap (option_map asker_in) c.in-Some.is))

pub returns-in-None : goal.returns-in-None
returns-in-None g c =
    nothing_asked c.args.tx.now (named_none c.args.lab.id (Knows c.args.lab.id c.args.giver) (option_map asker_in c.args.ask.now)
    (g.W.Writable.state c.args.tx.now) (ap (option_map asker_in) c.in-None.is))
