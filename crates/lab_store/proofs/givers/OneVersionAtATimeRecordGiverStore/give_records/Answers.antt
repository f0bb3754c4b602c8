-- What the records of a range blame the store for is why they may be refused.
use Rattle.lab_store.proofs.Blames.{range_blamed}
use Rattle.lab_store.proofs.givers.OneVersionAtATimeRecordGiverStore.give_records.Goals as goal

pub returns-clause-cause : goal.returns-clause-cause
returns-clause-cause g c =
    range_blamed g.S.Store c.give_records.new.self _ c.args.keeper.now c.args.lab.now c.args.from
    c.args.last c.give_records.result c.give_records.ensures.fault c.give_records.ensures.cause
