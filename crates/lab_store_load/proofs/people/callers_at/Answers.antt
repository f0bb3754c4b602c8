use Rattle.std.proofs.Common.{◌∙◌, ap, sym, subst}
use Rattle.lab_records_kept.specs.Lookups.{caller_of}
use Rattle.lab_store_tables.specs.Ready.{tables_of}
use Rattle.lab_store_read.proofs.Causes.{passed_on, passed_so, then_so}
use Rattle.lab_store_read.proofs.Readers.{may_both}
use Rattle.lab_store_read_records.specs.Laboratories.{lab_by}
use Rattle.lab_store_load.specs.Readable.{HasCallerOf}
use Rattle.lab_store_load.proofs.PeopleLemmas.{same_callers}
use Rattle.lab_store_load.proofs.people.callers_at.Goals as goal

pub returns-in_err-session-clause-cause : goal.returns-in_err-session-clause-cause
returns-in_err-session-clause-cause g c = passed_on c.in_err-session.ensures.cause (λ there. there.session) c.from_residual.result c.from_residual.ensures.1

pub returns-in_err-caller-clause-cause : goal.returns-in_err-caller-clause-cause
returns-in_err-caller-clause-cause g c =
    let t = tables_of (g.D.Readable.state c.args.conn.now) in
    passed_so (then_so c.in_ok-session.ensures.reads c.in_ok-session.ensures.cause.limit c.in_err-caller.ensures.reads c.in_err-caller.ensures.cause
    (λ session there. subst (HasCallerOf t c.args.lab.now.id) (sym session) there.caller))
    c.from_residual-in_err-caller.result c.from_residual-in_err-caller.ensures.1

pub returns-clause-reads : goal.returns-clause-reads
returns-clause-reads g c =
    let t = tables_of (g.D.Readable.state c.args.conn.now) in
    may_both c.in_ok-session.ensures.reads c.in_ok-caller.ensures.reads
    (λ session caller. same_callers _ _ session (caller ∙ ap (caller_of (lab_by t c.args.lab.now)) session))
