use Rattle.std.proofs.Common.{Some, option_map, sym, ap, subst, ◌∙◌, IfSome, w64, rules, SFits}
use Rattle.std.proofs.lemmas.Int.{to_z-of_z}
use Rattle.lab_store_tables.specs.Ready.{tables_of}
use Rattle.lab_store_read.proofs.Causes.{passed_on}
use Rattle.lab_store_read.proofs.Readers.{none_read, may_end, may_and}
use Rattle.lab_store_load.specs.Private.Parts.{slice_by}
use Rattle.lab_store_load.specs.Readable.{HasSlice}
use Rattle.lab_store_load.proofs.Counting.{slice_kept}
use Rattle.lab_store_load.proofs.loading.slice_if.Goals as goal

pub returns-in_err-slice-in-Some-clause-reads : goal.returns-in_err-slice-in-Some-clause-reads
returns-in_err-slice-in-Some-clause-reads g c = may_end c.in_err-slice-in-Some.ensures.reads c.from_residual-in_err-slice-in-Some.result _ c.from_residual-in_err-slice-in-Some.ensures.1

pub returns-in_err-slice-in-Some-clause-cause : goal.returns-in_err-slice-in-Some-clause-cause
returns-in_err-slice-in-Some-clause-cause g c =
    let t = tables_of (g.D.Readable.state c.args.conn.now) in
    passed_on c.in_err-slice-in-Some.ensures.cause (λ there. subst (λ o. IfSome o (λ one. HasSlice t one c.args.need.now)) c.in-Some.is there)
    c.from_residual-in_err-slice-in-Some.result c.from_residual-in_err-slice-in-Some.ensures.1

pub returns-in_ok-slice-in-Some-clause-reads : goal.returns-in_ok-slice-in-Some-clause-reads
returns-in_ok-slice-in-Some-clause-reads g c =
    let t = tables_of (g.D.Readable.state c.args.conn.now) in
    let head = c.in-Some.head in
    let fits : SFits w64 head.id = search rules in
    may_and c.in_ok-slice-in-Some.ensures.reads (λ is right there. (
      ap Some (is right) ∙ sym (ap (option_map (slice_by t c.args.need.now)) c.in-Some.is),
      slice_kept t c.args.need.now head _ _ c.args.code.now _ (to_z-of_z w64 head.id fits) c.in_ok-code-in-Some.ensures (sym c.in-Some.is ∙ there) (is right),
    ))

pub returns-in-None-clause-reads : goal.returns-in-None-clause-reads
returns-in-None-clause-reads g c =
    let t = tables_of (g.D.Readable.state c.args.conn.now) in
    none_read (λ right there. (sym (ap (option_map (slice_by t c.args.need.now)) c.in-None.is), right))
