-- What a load blames the store for is why the keeper may refuse it.
use Rattle.std.proofs.Common.{refl}
use Rattle.lab_store.proofs.Blames.{load_blamed}
use Rattle.lab_store.proofs.store.StoreKeeper.load.Goals as goal

pub returns-clause-cause : goal.returns-clause-cause
returns-clause-cause g c =
    load_blamed g.S.Store c.part.new.self c.args.self.now c.args.self.now c.args.code.now
    c.args.need.now c.part.result refl c.part.ensures.cause
