-- The store's clauses ask first that the disk is clean, and those of the tables that they are ready.
use Rattle.lab_store.proofs.store.Store.give_records.Goals as goal

pub returns-clause-text : goal.returns-clause-text
returns-clause-text g c =
    rw (← c.self.view_is) (λ clean ready. c.give_records_at.ensures.text ready clean tt tt)

pub returns-clause-counts : goal.returns-clause-counts
returns-clause-counts g c =
    rw (← c.self.view_is) (λ clean ready. c.give_records_at.ensures.counts ready clean tt tt)

pub returns-clause-cause : goal.returns-clause-cause
returns-clause-cause g c = rw (← c.self.view_is) c.give_records_at.ensures.cause

pub returns-clause-shuts : goal.returns-clause-shuts
returns-clause-shuts g c =
    let shut = c.give_records_at.ensures.passes.shuts in
    rw (← c.self.view_is) (λ clean ready. record { counts = shut.counts; cause = shut.cause clean })

pub invariant_of-self : goal.invariant_of-self
invariant_of-self g c = record { at_rest = c.give_records_at.ensures.passes.at_rest c.self.invariant.at_rest; right = λ _ _ _. tt; opened = λ _. tt }
