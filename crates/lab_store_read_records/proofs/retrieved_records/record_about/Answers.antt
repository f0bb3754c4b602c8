use Rattle.std.proofs.Common.{w64, ◌∙◌, ap, ap₂, find, option_map, slice_get, sym, subst}
use Rattle.std.proofs.lemmas.Int.{to_z-of_z}
use Rattle.lab_store_read.specs.Causes.{HasFirst}
use Rattle.lab_store_tables.specs.Ready.{tables_of}
use Rattle.lab_store_read_records.specs.Heads.{record_head}
use Rattle.lab_store_read_records.specs.Shown.{record_head_of}
use Rattle.lab_store_read.proofs.Queries.{if_then}
use Rattle.lab_store_read.proofs.Readers.{reads_and}
use Rattle.lab_store_read_records.specs.Sought.{is_about}
use Rattle.lab_store_read_records.proofs.RetrievalFound.{about_found}
use Rattle.lab_store_read.proofs.Causes.{made_so, made_if}
use Rattle.lab_store_read_records.specs.Readable.{HasRecord}
use Rattle.lab_store_read_records.specs.Retrieved.{abouts_shown}
use Rattle.lab_store_read_records.proofs.retrieved_records.record_about.Goals as goal

pub returns-clause-reads : goal.returns-clause-reads
returns-clause-reads g c =
    let t = tables_of (g.D.Readable.state c.args.conn.now) in
    reads_and (rw (to_z-of_z w64 c.args.lab c.ranges.lab) at c.in_ok-rows.ensures.reads) (λ kept rows.
    if_then c.first_record.result (λ made is. is ∙ ap (λ l. option_map record_head_of (slice_get l 0)) (c.deref.ensures.value ∙ rows)
    ∙ about_found t c.args.lab c.as_str.result.now c.as_str-2.result.now
    ∙ ap₂ (λ form sample. option_map record_head (find (is_about c.args.lab form sample) t.records)) c.as_str.ensures.value c.as_str-2.ensures.value) c.first_record.ensures.value)

pub returns-clause-cause : goal.returns-clause-cause
returns-clause-cause g c =
    let t = tables_of (g.D.Readable.state c.args.conn.now) in
    made_so (rw (to_z-of_z w64 c.args.lab c.ranges.lab) at c.in_ok-rows.ensures.reads) c.in_ok-rows.ensures.cause.limit (λ rows there.
    made_if _ _ (subst (HasFirst HasRecord) (sym (c.deref.ensures.value ∙ rows ∙ ap₂ (abouts_shown t c.args.lab) c.as_str.ensures.value c.as_str-2.ensures.value)) there)
    c.first_record.result c.first_record.ensures.fault)
