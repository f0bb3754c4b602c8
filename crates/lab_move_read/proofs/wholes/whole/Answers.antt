use Rattle.std.proofs.Common.{sym, subst, IfSome, ◌∙◌}
use Rattle.lab_move_tables.proofs.Wheres.{where_by_schema, where_and, where_both, where_end}
use Rattle.lab_move_read_people.proofs.Found.{told_back}
use Rattle.lab_move_read.specs.Laboratories.{IsUnkept}
use Rattle.lab_move_read.specs.Readable.{HasParts}
use Rattle.lab_move_read.proofs.WholesFound.{no_lab, not_told, lab_is, unkept_told, whole_fails}
use Rattle.lab_move_read.proofs.wholes.whole.Goals as goal

pub returns-in_err-head-clause-reads : goal.returns-in_err-head-clause-reads
returns-in_err-head-clause-reads g c =
    where_end (where_by_schema c.in_err-head.ensures) c.from_residual.result _ c.from_residual.ensures.1 (λ e is told. told_back _ (sym is ∙ told)) (λ t wanted. wanted.head)

pub returns-in_err-head-clause-not_kept : goal.returns-in_err-head-clause-not_kept
returns-in_err-head-clause-not_kept g c = λ t file clean. not_told (IsUnkept t c.args.code.now) c.from_residual.result c.in_err-head.field-0.0 c.from_residual.ensures.1

pub returns-in_err-lab_whole-in-Some-clause-reads : goal.returns-in_err-lab_whole-in-Some-clause-reads
returns-in_err-lab_whole-in-Some-clause-reads g c =
    whole_fails (where_by_schema c.in_ok-head.ensures) c.in_err-lab_whole-in-Some.field-0.0 c.in_err-lab_whole-in-Some.ensures
    (λ t file wanted head. subst (λ o. IfSome o (HasParts c.args.older (g.D.Readable.state c.args.conn.now).now t)) (sym head ∙ c.in-Some.is) wanted.parts)
    c.from_residual-in_err-lab_whole-in-Some.result c.from_residual-in_err-lab_whole-in-Some.ensures.1

pub returns-in_err-lab_whole-in-Some-clause-not_kept : goal.returns-in_err-lab_whole-in-Some-clause-not_kept
returns-in_err-lab_whole-in-Some-clause-not_kept g c =
    unkept_told c.args.code.now c.in-Some.head c.in-Some.is (where_by_schema c.in_ok-head.ensures) c.in_err-lab_whole-in-Some.field-0.0 c.in_err-lab_whole-in-Some.ensures
    c.from_residual-in_err-lab_whole-in-Some.result c.from_residual-in_err-lab_whole-in-Some.ensures.1

pub returns-in_ok-lab_whole-in-Some-clause-reads : goal.returns-in_ok-lab_whole-in-Some-clause-reads
returns-in_ok-lab_whole-in-Some-clause-reads g c =
    where_both (where_by_schema c.in_ok-head.ensures) c.in_ok-lab_whole-in-Some.ensures
    (λ t file head lab. lab_is t c.args.code.now c.in-Some.head (sym c.in-Some.is ∙ head) c.in_ok-lab_whole-in-Some.field-0 lab.0 lab.1) (λ t file wanted head lab. tt)

pub returns-in-None-clause-reads : goal.returns-in-None-clause-reads
returns-in-None-clause-reads g c =
    where_and (where_by_schema c.in_ok-head.ensures) (λ t file head. no_lab t c.args.code.now (sym c.in-None.is ∙ head)) (λ t file wanted head. tt)
