use Rattle.std.proofs.Common.{w64, ◌∙◌, rules, SFits}
use Rattle.std.proofs.lemmas.Int.{to_z-of_z}
use Rattle.std.proofs.lemmas.Result.{err_from_is_err_and}
use Rattle.lab_store_tables.specs.Ready.{tables_of}
use Rattle.lab_store_read.proofs.Readers.{may_read, may_end, may_both, may_fail}
use Rattle.lab_store_read.proofs.Causes.{then_so, passed_on, passed_so, none_told}
use Rattle.lab_store_read_forms.proofs.FormsBehind.{filed_behind}
use Rattle.lab_store_read_forms.proofs.filed.add_record.Goals as goal

pub returns-in_err-found-clause-reads : goal.returns-in_err-found-clause-reads
returns-in_err-found-clause-reads g c = may_end c.in_err-found.ensures.reads c.from_residual.result _ c.from_residual.ensures.1

pub returns-in_err-form-clause-reads : goal.returns-in_err-form-clause-reads
returns-in_err-form-clause-reads g c = may_end c.in_ok-found.ensures.reads c.from_residual-in_err-form.result _ c.from_residual-in_err-form.ensures.1

pub returns-in_err-add_formed-clause-reads : goal.returns-in_err-add_formed-clause-reads
returns-in_err-add_formed-clause-reads g c =
    rw (err_from_is_err_and c.from_residual-in_err-add_formed.result c.from_residual-in_err-add_formed.ensures.1).1
    (may_fail c.in_ok-found.ensures.reads (may_read c.in_err-add_formed.ensures.reads))

pub returns-clause-reads : goal.returns-clause-reads
returns-clause-reads g c =
    let head = c.args.head in
    let fits : SFits w64 head.form = search rules in
    may_both (rw (to_z-of_z w64 head.form fits) at c.in_ok-found.ensures.reads) (may_read c.in_ok-add_formed.ensures.reads)
    (λ found put right. filed_behind (tables_of (g.D.Readable.state c.args.conn.now)) c.args.code.now head _ _ _ _ (found right) c.in_ok-form.ensures put)

pub returns-in_err-found-clause-cause : goal.returns-in_err-found-clause-cause
returns-in_err-found-clause-cause g c =
    let fits : SFits w64 c.args.head.form = search rules in
    passed_on (rw (to_z-of_z w64 c.args.head.form fits) at c.in_err-found.ensures.cause) (λ has. has.form) c.from_residual.result c.from_residual.ensures.1

pub returns-in_err-add_formed-clause-cause : goal.returns-in_err-add_formed-clause-cause
returns-in_err-add_formed-clause-cause g c =
    passed_so (then_so c.in_ok-found.ensures.reads c.in_ok-found.ensures.cause.limit (may_read c.in_err-add_formed.ensures.reads)
    c.in_err-add_formed.ensures.cause (λ found has. has)) c.from_residual-in_err-add_formed.result c.from_residual-in_err-add_formed.ensures.1

pub returns-clause-cause : goal.returns-clause-cause
returns-clause-cause g c = none_told (c.in_ok-add_formed.ensures.cause.limit ∙ c.in_ok-found.ensures.cause.limit)
