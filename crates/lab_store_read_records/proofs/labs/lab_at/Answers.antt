use Rattle.std.proofs.Common.{◌∙◌, ap, find, option_map, slice_get, sym, subst}
use Rattle.lab_store_read.specs.Causes.{HasFirst}
use Rattle.lab_store_tables.specs.Meaning.{has_code}
use Rattle.lab_store_tables.specs.Ready.{tables_of}
use Rattle.lab_store_read_records.specs.Heads.{lab_head}
use Rattle.lab_store_read_records.specs.Shown.{labs_shown, lab_read}
use Rattle.lab_store_read_records.proofs.Found.{lab_found}
use Rattle.lab_store_read.proofs.Queries.{if_then}
use Rattle.lab_store_read.proofs.Readers.{reads_and}
use Rattle.lab_store_read.proofs.Causes.{made_so, made_if}
use Rattle.lab_store_read_records.specs.Readable.{HasLab}
use Rattle.lab_store_read_records.proofs.labs.lab_at.Goals as goal

pub returns-clause-reads : goal.returns-clause-reads
returns-clause-reads g c =
    let t = tables_of (g.D.Readable.state c.args.conn.now) in
    reads_and c.in_ok-rows.ensures.reads (λ kept rows.
    if_then c.first_lab.result (λ made is. is ∙ ap (λ l. option_map lab_read (slice_get l 0)) (c.deref.ensures.value ∙ rows)
    ∙ lab_found t c.as_str.result.now ∙ ap (λ s. option_map lab_head (find (has_code s) t.labs)) c.as_str.ensures.value) c.first_lab.ensures.value)

pub returns-clause-cause : goal.returns-clause-cause
returns-clause-cause g c =
    let t = tables_of (g.D.Readable.state c.args.conn.now) in
    made_so c.in_ok-rows.ensures.reads c.in_ok-rows.ensures.cause.limit (λ rows there.
    made_if _ _ (subst (HasFirst HasLab) (sym (c.deref.ensures.value ∙ rows ∙ ap (labs_shown t) c.as_str.ensures.value)) there)
    c.first_lab.result c.first_lab.ensures.fault)
