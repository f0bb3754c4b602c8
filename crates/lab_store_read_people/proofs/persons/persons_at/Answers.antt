use Rattle.std.proofs.Common.{w64, ◌∙◌, ◌++◌, ap, map, sym, subst, All}
use Rattle.std.proofs.lemmas.Int.{to_z-of_z}
use Rattle.lab_store_tables.specs.Ready.{tables_of}
use Rattle.lab_store_read.proofs.Readers.{reads_both, may_read}
use Rattle.lab_store_read.proofs.Causes.{passed_on, passed_so, then_so}
use Rattle.lab_store_read_people.specs.Private.Heads.{person_by}
use Rattle.lab_store_read_people.specs.PersonsReadable.{HasAsker}
use Rattle.lab_store_read_people.proofs.PersonCauses.{all_columns, all_askers}
use Rattle.lab_store_read_people.proofs.PersonsFound.{persons_built}
use Rattle.lab_store_read_people.proofs.persons.persons_at.Goals as goal

pub returns-in_err-heads-clause-cause : goal.returns-in_err-heads-clause-cause
returns-in_err-heads-clause-cause g c =
    passed_on (rw (to_z-of_z w64 c.args.lab c.ranges.lab) at c.in_err-heads.ensures.cause) (all_columns (tables_of (g.D.Readable.state c.args.conn.now)) _)
    c.from_residual.result c.from_residual.ensures.1

pub returns-in_err-add_persons-clause-cause : goal.returns-in_err-add_persons-clause-cause
returns-in_err-add_persons-clause-cause g c =
    let t = tables_of (g.D.Readable.state c.args.conn.now) in
    passed_so (then_so (may_read (rw (to_z-of_z w64 c.args.lab c.ranges.lab) at c.in_ok-heads.ensures.reads)) c.in_ok-heads.ensures.cause.limit
    c.in_err-add_persons.ensures.reads c.in_err-add_persons.ensures.cause (λ given there. subst (All (HasAsker t)) (sym given) (all_askers t c.args.lab there)))
    c.from_residual-in_err-add_persons.result c.from_residual-in_err-add_persons.ensures.1

pub returns-clause-reads : goal.returns-clause-reads
returns-clause-reads g c =
    let t = tables_of (g.D.Readable.state c.args.conn.now) in
    reads_both (rw (to_z-of_z w64 c.args.lab c.ranges.lab) at c.in_ok-heads.ensures.reads) c.in_ok-add_persons.ensures.reads (λ kept given made. made
    ∙ ap (λ l. l ++ map (person_by t) c.in_ok-heads.heads.items) c.new-made.ensures.items ∙ ap (map (person_by t)) given ∙ persons_built t c.args.lab)
