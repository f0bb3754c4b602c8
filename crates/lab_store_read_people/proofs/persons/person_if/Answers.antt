use Rattle.std.proofs.Common.{Some, option_map, sym, ap, ◌∙◌}
use Rattle.lab_store_tables.specs.Ready.{tables_of}
use Rattle.lab_store_read.proofs.Readers.{none_read, may_end, may_and}
use Rattle.lab_store_read_people.specs.Private.Heads.{person_by}
use Rattle.lab_store_read_people.proofs.persons.person_if.Goals as goal

pub returns-in_err-person-in-Some-clause-reads : goal.returns-in_err-person-in-Some-clause-reads
returns-in_err-person-in-Some-clause-reads g c = may_end c.in_err-person-in-Some.ensures.reads c.from_residual.result _ c.from_residual.ensures.1

pub returns-in_ok-person-in-Some-clause-reads : goal.returns-in_ok-person-in-Some-clause-reads
returns-in_ok-person-in-Some-clause-reads g c =
    let t = tables_of (g.D.Readable.state c.args.conn.now) in
    may_and c.in_ok-person-in-Some.ensures.reads (λ is. ap Some is ∙ sym (ap (option_map (person_by t)) c.in-Some.is))

pub returns-in-None-clause-reads : goal.returns-in-None-clause-reads
returns-in-None-clause-reads g c =
    let t = tables_of (g.D.Readable.state c.args.conn.now) in
    none_read (sym (ap (option_map (person_by t)) c.in-None.is))
