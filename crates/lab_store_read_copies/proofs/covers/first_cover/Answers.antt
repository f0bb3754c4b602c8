-- The form is the one of the row.
use Rattle.std.proofs.Common.{ap₂, w64, rules, SFits}
use Rattle.std.proofs.lemmas.Int.{to_z-of_z}
use Rattle.lab_store_read.proofs.Readers.{reads_and}
use Rattle.lab_store_read.proofs.Causes.{none_told, passed_so}
use Rattle.lab_store_read_copies.proofs.FoundLemmas.{cover_with}
use Rattle.lab_store_read_copies.proofs.covers.first_cover.Goals as goal

pub returns-clause-reads : goal.returns-clause-reads
returns-clause-reads g c =
    let head = c.args.head in
    let fits : SFits w64 head.form = search rules in
    reads_and c.in_ok-kept.ensures.reads (λ kept is. ap₂ cover_with (to_z-of_z w64 head.form fits) is)

pub returns-in_err-kept-clause-cause : goal.returns-in_err-kept-clause-cause
returns-in_err-kept-clause-cause g c =
    passed_so c.in_err-kept.ensures.cause c.from_residual.result c.from_residual.ensures.1

pub returns-clause-cause : goal.returns-clause-cause
returns-clause-cause g c = none_told c.in_ok-kept.ensures.cause.limit
