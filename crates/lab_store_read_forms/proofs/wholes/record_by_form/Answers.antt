use Rattle.std.proofs.Common.{w64, ◌∙◌, ap, rules, SFits, sym, subst, false}
use Rattle.std.proofs.lemmas.Int.{to_z-of_z}
use Rattle.lab_store_read.proofs.Queries.{if_then}
use Rattle.lab_store_read.proofs.Readers.{reads_fail, reads_and}
use Rattle.lab_store_read.proofs.Causes.{made_so, made_if, passed_on}
use Rattle.lab_store_read_records.specs.Readable.{ArePlaced}
use Rattle.lab_store_read_forms.specs.Wholes.{record_with}
use Rattle.lab_store_read_forms.proofs.wholes.record_by_form.Goals as goal

pub returns-in_err-leaves-clause-reads : goal.returns-in_err-leaves-clause-reads
returns-in_err-leaves-clause-reads g c = reads_fail c.in_err-leaves.ensures.reads c.from_residual.result _ c.from_residual.ensures.1

pub returns-clause-reads : goal.returns-clause-reads
returns-clause-reads g c =
    let head = c.args.head in
    let fits : SFits w64 head.id = search rules in
    reads_and (rw (to_z-of_z w64 head.id fits) at c.in_ok-leaves.ensures.reads)
    (λ kept leaves. if_then c.record_with.result (λ it is. is ∙ ap (record_with c.args.lab.now head c.args.form) leaves) c.record_with.ensures.value)

pub returns-in_err-leaves-clause-cause : goal.returns-in_err-leaves-clause-cause
returns-in_err-leaves-clause-cause g c =
    let fits : SFits w64 c.args.head.id = search rules in
    passed_on (rw (to_z-of_z w64 c.args.head.id fits) at c.in_err-leaves.ensures.cause) (λ has. has.versions) c.from_residual.result c.from_residual.ensures.1

pub returns-clause-cause : goal.returns-clause-cause
returns-clause-cause g c =
    let fits : SFits w64 c.args.head.id = search rules in
    made_so (rw (to_z-of_z w64 c.args.head.id fits) at c.in_ok-leaves.ensures.reads) c.in_ok-leaves.ensures.cause.limit (λ leaves has.
    made_if _ _ (subst (ArePlaced false) (sym leaves) has.placed) c.record_with.result c.record_with.ensures.fault)
