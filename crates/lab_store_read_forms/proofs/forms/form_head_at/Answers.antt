use Rattle.std.proofs.Common.{w64, ◌∙◌, ap, option_map, slice_get, sym, subst}
use Rattle.std.proofs.lemmas.Int.{to_z-of_z}
use Rattle.lab_store_read.specs.Causes.{HasFirst}
use Rattle.lab_store_tables.specs.Ready.{tables_of}
use Rattle.lab_store_read.proofs.Queries.{if_then}
use Rattle.lab_store_read.proofs.Readers.{reads_and}
use Rattle.lab_store_read_forms.specs.Shown.{form_read}
use Rattle.lab_store_read_forms.proofs.FormsFound.{form_found}
use Rattle.lab_store_read.proofs.Causes.{made_so, made_if}
use Rattle.lab_store_read_forms.specs.Readable.{HasForm}
use Rattle.lab_store_read_forms.proofs.forms.form_head_at.Goals as goal

pub returns-clause-reads : goal.returns-clause-reads
returns-clause-reads g c =
    let t = tables_of (g.D.Readable.state c.args.conn.now) in
    reads_and (rw (to_z-of_z w64 c.args.id c.ranges.id) at c.in_ok-rows.ensures.reads) (λ kept rows.
    if_then c.first_form.result (λ made is. is ∙ ap (λ l. option_map form_read (slice_get l 0)) (c.deref.ensures.value ∙ rows)
    ∙ form_found t c.args.id) c.first_form.ensures.value)

pub returns-clause-cause : goal.returns-clause-cause
returns-clause-cause g c =
    made_so (rw (to_z-of_z w64 c.args.id c.ranges.id) at c.in_ok-rows.ensures.reads) c.in_ok-rows.ensures.cause.limit (λ rows there.
    made_if _ _ (subst (HasFirst HasForm) (sym (c.deref.ensures.value ∙ rows)) there)
    c.first_form.result c.first_form.ensures.fault)
