use Rattle.std.proofs.Common.{[], ◌∷◌, ◌++◌, ap, ◌∙◌}
use Rattle.lab_store_read.proofs.Readers.{may_end, may_and}
use Rattle.lab_store_read_records.proofs.entries.add_entry.Goals as goal

pub returns-in_err-entry-clause-reads : goal.returns-in_err-entry-clause-reads
returns-in_err-entry-clause-reads g c = may_end c.in_err-entry.ensures.reads c.from_residual.result _ c.from_residual.ensures.1

pub returns-in_err-push-clause-reads : goal.returns-in_err-push-clause-reads
returns-in_err-push-clause-reads g c = may_end c.in_ok-entry.ensures.reads c.from_residual-in_err-push.result _ c.from_residual-in_err-push.ensures.1

pub returns-clause-reads : goal.returns-clause-reads
returns-clause-reads g c =
    may_and c.in_ok-entry.ensures.reads (λ once are.
    let it = once are in
    (c.in_ok-push.ensures.items ∙ ap (λ one. c.args.made.now.items ++ one ∷ []) it.0, it.1))
