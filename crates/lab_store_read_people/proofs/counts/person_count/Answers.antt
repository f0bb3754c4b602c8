use Rattle.std.proofs.Common.{w64, length, ◌∙◌}
use Rattle.std.proofs.lemmas.Int.{to_z-of_z}
use Rattle.lab_store_tables.specs.Meaning.{persons_of}
use Rattle.lab_store_tables.specs.Ready.{tables_of}
use Rattle.lab_store_read.proofs.Queries.{if_then}
use Rattle.lab_store_read.proofs.Readers.{reads_and}
use Rattle.lab_store_read.proofs.Causes.{made_so, made_there}
use Rattle.lab_store_read_people.proofs.CountAnswers.{number_is}
use Rattle.lab_store_read_people.proofs.CountCauses.{number_stands}
use Rattle.lab_store_read_people.proofs.counts.person_count.Goals as goal

pub returns-clause-reads : goal.returns-clause-reads
returns-clause-reads g c =
    let t = tables_of (g.D.Readable.state c.args.conn.now) in
    reads_and (rw (to_z-of_z w64 c.args.lab c.ranges.lab) at c.in_ok-rows.ensures.reads) (λ kept rows.
    if_then c.first_number.result (λ many is. number_is c.deref.result.now many (length (persons_of t c.args.lab)) is.0 is.1 (c.deref.ensures.value ∙ rows))
    c.first_number.ensures.value)

pub returns-clause-cause : goal.returns-clause-cause
returns-clause-cause g c =
    let t = tables_of (g.D.Readable.state c.args.conn.now) in
    made_so (rw (to_z-of_z w64 c.args.lab c.ranges.lab) at c.in_ok-rows.ensures.reads) c.in_ok-rows.ensures.cause.limit (λ rows there.
    made_there _ (number_stands c.deref.result.now (length (persons_of t c.args.lab)) (c.deref.ensures.value ∙ rows)) c.first_number.result c.first_number.ensures.fault)
