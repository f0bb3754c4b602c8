use Rattle.std.proofs.Common.{w64, ◌∙◌, ap, sym, subst, map, All}
use Rattle.std.proofs.lemmas.Int.{to_z-of_z}
use Rattle.lab_store_tables.specs.Ready.{tables_of}
use Rattle.lab_store_read.proofs.Queries.{if_then}
use Rattle.lab_store_read.proofs.Readers.{reads_and}
use Rattle.lab_store_read.proofs.Causes.{made_so, made_if}
use Rattle.lab_store_read_people.specs.PersonsReadable.{HasPerson}
use Rattle.lab_store_read_people.specs.PersonsShown.{person_read}
use Rattle.lab_store_read_people.proofs.PersonsFound.{persons_found}
use Rattle.lab_store_read_people.proofs.persons.person_heads_at.Goals as goal

pub returns-clause-reads : goal.returns-clause-reads
returns-clause-reads g c = reads_and (rw (to_z-of_z w64 c.args.lab c.ranges.lab) at c.in_ok-rows.ensures.reads) (λ kept rows.
    if_then c.persons_of_rows.result (λ made is. is ∙ ap (map person_read) (c.deref.ensures.value ∙ rows)
    ∙ persons_found (tables_of (g.D.Readable.state c.args.conn.now)) c.args.lab) c.persons_of_rows.ensures.value)

pub returns-clause-cause : goal.returns-clause-cause
returns-clause-cause g c =
    made_so (rw (to_z-of_z w64 c.args.lab c.ranges.lab) at c.in_ok-rows.ensures.reads) c.in_ok-rows.ensures.cause.limit (λ rows there.
    made_if _ _ (subst (All HasPerson) (sym (c.deref.ensures.value ∙ rows)) there) c.persons_of_rows.result c.persons_of_rows.ensures.fault)
