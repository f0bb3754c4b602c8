use Rattle.std.proofs.Common.{w64, ◌∙◌, ap, find, option_map, slice_get, sym, subst}
use Rattle.std.proofs.lemmas.Int.{to_z-of_z}
use Rattle.lab_store_read.specs.Causes.{HasFirst}
use Rattle.lab_store_tables.specs.Ready.{tables_of}
use Rattle.lab_store_read_records.specs.Heads.{is_record, record_head}
use Rattle.lab_store_read_records.specs.Shown.{records_shown, record_head_of}
use Rattle.lab_store_read_records.proofs.Found.{record_found}
use Rattle.lab_store_read.proofs.Queries.{if_then}
use Rattle.lab_store_read.proofs.Readers.{reads_and}
use Rattle.lab_store_read.proofs.Causes.{made_so, made_if}
use Rattle.lab_store_read_records.specs.Readable.{HasRecord}
use Rattle.lab_store_read_records.proofs.records.record_at.Goals as goal

pub returns-clause-reads : goal.returns-clause-reads
returns-clause-reads g c =
    let t = tables_of (g.D.Readable.state c.args.conn.now) in
    reads_and (rw (to_z-of_z w64 c.args.lab c.ranges.lab) at c.in_ok-rows.ensures.reads) (λ kept rows.
    if_then c.first_record.result (λ made is. is ∙ ap (λ l. option_map record_head_of (slice_get l 0)) (c.deref.ensures.value ∙ rows)
    ∙ record_found t c.args.lab c.get.result ∙ ap (λ n. option_map record_head (find (is_record c.args.lab n) t.records)) c.get.ensures.value) c.first_record.ensures.value)

pub returns-clause-cause : goal.returns-clause-cause
returns-clause-cause g c =
    let t = tables_of (g.D.Readable.state c.args.conn.now) in
    made_so (rw (to_z-of_z w64 c.args.lab c.ranges.lab) at c.in_ok-rows.ensures.reads) c.in_ok-rows.ensures.cause.limit (λ rows there.
    made_if _ _ (subst (HasFirst HasRecord) (sym (c.deref.ensures.value ∙ rows ∙ ap (records_shown t c.args.lab) c.get.ensures.value)) there)
    c.first_record.result c.first_record.ensures.fault)
