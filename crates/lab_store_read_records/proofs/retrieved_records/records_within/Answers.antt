use Rattle.std.proofs.Common.{w64, ◌∙◌, ap, ap₂, map, sym, subst}
use Rattle.std.proofs.lemmas.Int.{to_z-of_z}
use Rattle.lab_store_tables.specs.Ready.{tables_of}
use Rattle.lab_store_read_records.specs.Shown.{record_head_of}
use Rattle.lab_store_read.proofs.Queries.{if_then}
use Rattle.lab_store_read.proofs.Readers.{reads_and}
use Rattle.lab_store_read_records.specs.Sought.{heads_within}
use Rattle.lab_store_read_records.proofs.RetrievalFound.{within_found}
use Rattle.lab_store_read.proofs.Causes.{made_so, made_if}
use Rattle.std.specs.Prelude.{All}
use Rattle.lab_store_read_records.specs.Readable.{HasRecord}
use Rattle.lab_store_read_records.specs.Retrieved.{within_shown}
use Rattle.lab_store_read_records.proofs.retrieved_records.records_within.Goals as goal

pub returns-clause-reads : goal.returns-clause-reads
returns-clause-reads g c =
    let t = tables_of (g.D.Readable.state c.args.conn.now) in
    reads_and (rw (to_z-of_z w64 c.args.lab c.ranges.lab) at c.in_ok-rows.ensures.reads) (λ kept rows.
    if_then c.records_of_rows.result (λ made is. is ∙ ap (map record_head_of) (c.deref.ensures.value ∙ rows)
    ∙ within_found t c.args.lab c.get.result c.get-2.result ∙ ap₂ (heads_within t c.args.lab) c.get.ensures.value c.get-2.ensures.value) c.records_of_rows.ensures.value)

pub returns-clause-cause : goal.returns-clause-cause
returns-clause-cause g c =
    let t = tables_of (g.D.Readable.state c.args.conn.now) in
    made_so (rw (to_z-of_z w64 c.args.lab c.ranges.lab) at c.in_ok-rows.ensures.reads) c.in_ok-rows.ensures.cause.limit (λ rows there.
    made_if _ _ (subst (All HasRecord) (sym (c.deref.ensures.value ∙ rows ∙ ap₂ (within_shown t c.args.lab) c.get.ensures.value c.get-2.ensures.value)) there)
    c.records_of_rows.result c.records_of_rows.ensures.fault)
