use Rattle.std.proofs.Common.{◌∙◌, w64, rules, SFits}
use Rattle.std.proofs.lemmas.Int.{to_z-of_z}
use Rattle.lab_store_read.proofs.Causes.{passed_so}
use Rattle.lab_store_read.proofs.Readers.{reads_and}
use Rattle.lab_store_load.proofs.ListLemmas.{same_listed}
use Rattle.lab_store_load.proofs.lists.trail_listed.Goals as goal

pub returns-in_err-trail-clause-cause : goal.returns-in_err-trail-clause-cause
returns-in_err-trail-clause-cause g c =
    let id = c.args.lab.now.id in
    let fits : SFits w64 id = search rules in
    passed_so (rw (to_z-of_z w64 id fits) at c.in_err-trail.ensures.cause) c.from_residual.result c.from_residual.ensures.1

pub returns-clause-reads : goal.returns-clause-reads
returns-clause-reads g c =
    let id = c.args.lab.now.id in
    let fits : SFits w64 id = search rules in
    reads_and (rw (to_z-of_z w64 id fits) at c.in_ok-trail.ensures.reads) (λ kept found. same_listed _ _ c.new.ensures c.new-2.ensures (c.from_vec.ensures ∙ found))
