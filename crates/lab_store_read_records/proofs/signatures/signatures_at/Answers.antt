use Rattle.std.proofs.Common.{w64, ◌∙◌, ap, map, sym, subst}
use Rattle.std.proofs.lemmas.Int.{to_z-of_z}
use Rattle.lab_store_tables.specs.Ready.{tables_of}
use Rattle.lab_store_read_records.specs.Private.Shown.{signature_read}
use Rattle.lab_store_read_records.proofs.Found.{signatures_found}
use Rattle.lab_store_read.proofs.Queries.{if_then}
use Rattle.lab_store_read.proofs.Readers.{reads_and}
use Rattle.lab_store_read.proofs.Causes.{made_so, made_if}
use Rattle.std.specs.Prelude.{All}
use Rattle.lab_store_read_records.specs.Readable.{HasSignature}
use Rattle.lab_store_read_records.proofs.signatures.signatures_at.Goals as goal

pub returns-clause-reads : goal.returns-clause-reads
returns-clause-reads g c = reads_and (rw (to_z-of_z w64 c.args.version c.ranges.version) at c.in_ok-rows.ensures.reads) (λ kept rows.
    if_then c.signatures_of_rows.result (λ made is. is ∙ ap (map signature_read) (c.deref.ensures.value ∙ rows)
    ∙ signatures_found (tables_of (g.D.Readable.state c.args.conn.now)) c.args.version) c.signatures_of_rows.ensures.value)

pub returns-clause-cause : goal.returns-clause-cause
returns-clause-cause g c =
    made_so (rw (to_z-of_z w64 c.args.version c.ranges.version) at c.in_ok-rows.ensures.reads) c.in_ok-rows.ensures.cause.limit (λ rows there.
    made_if _ _ (subst (All HasSignature) (sym (c.deref.ensures.value ∙ rows)) there)
    c.signatures_of_rows.result c.signatures_of_rows.ensures.fault)
