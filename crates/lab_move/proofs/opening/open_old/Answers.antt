-- What the file answered as it owes it, it owes still: nothing changed.
use Rattle.std.proofs.Common.{Ok, sym, subst}
use Rattle.sqlite.specs.Effect.{Database}
use Rattle.lab_move.specs.Owed.{AnswersOldOwed}
use Rattle.lab_move.proofs.opening.open_old.Goals as goal

pub invariant_of-result : goal.invariant_of-result
invariant_of-result g c clean =
    subst (λ (db : Database). AnswersOldOwed db (Ok c.in-Ok.older)) (sym (c.in-Ok.ensures.reads.shows clean)) (c.in-Ok.ensures.owed clean)
