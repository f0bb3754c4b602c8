use Rattle.std.proofs.Common.{Some, option_map, sym, ap, ◌∙◌, Option, refl, subst}
use Rattle.lab_store_tables.specs.Ready.{tables_of}
use Rattle.lab_store_read.proofs.Readers.{none_read, may_read, may_end, may_and}
use Rattle.lab_store_read_forms.specs.Wholes.{record_by}
use Rattle.lab_store_read.proofs.Causes.{none_told, passed_on}
use Rattle.std.specs.Prelude.{IfSome}
use Rattle.lab_store_read_records.specs.declared.heads.RecordHead.{RecordHead}
use Rattle.lab_store_read_forms.specs.Readable.{HasParts}
use Rattle.lab_store_read_forms.proofs.filed.record_if.Goals as goal

pub returns-in_err-kept-in-Some-clause-reads : goal.returns-in_err-kept-in-Some-clause-reads
returns-in_err-kept-in-Some-clause-reads g c = may_end (may_read c.in_err-kept-in-Some.ensures.reads) c.from_residual.result _ c.from_residual.ensures.1

pub returns-in_ok-kept-in-Some-clause-reads : goal.returns-in_ok-kept-in-Some-clause-reads
returns-in_ok-kept-in-Some-clause-reads g c =
    let t = tables_of (g.D.Readable.state c.args.conn.now) in
    may_and (may_read c.in_ok-kept-in-Some.ensures.reads) (λ is. ap Some is ∙ sym (ap (option_map (record_by t c.args.code.now)) c.in-Some.is))

pub returns-in-None-clause-reads : goal.returns-in-None-clause-reads
returns-in-None-clause-reads g c =
    let t = tables_of (g.D.Readable.state c.args.conn.now) in
    none_read (sym (ap (option_map (record_by t c.args.code.now)) c.in-None.is))

pub returns-in_err-kept-in-Some-clause-cause : goal.returns-in_err-kept-in-Some-clause-cause
returns-in_err-kept-in-Some-clause-cause g c =
    let t = tables_of (g.D.Readable.state c.args.conn.now) in
    passed_on c.in_err-kept-in-Some.ensures.cause
    (λ has. subst (λ (h : Option RecordHead). IfSome h (HasParts t)) c.in-Some.is has) c.from_residual.result c.from_residual.ensures.1

pub returns-in_ok-kept-in-Some-clause-cause : goal.returns-in_ok-kept-in-Some-clause-cause
returns-in_ok-kept-in-Some-clause-cause g c = none_told c.in_ok-kept-in-Some.ensures.cause.limit

pub returns-in-None-clause-cause : goal.returns-in-None-clause-cause
returns-in-None-clause-cause g c = none_told refl
