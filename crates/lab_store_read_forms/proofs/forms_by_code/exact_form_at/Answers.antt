use Rattle.std.proofs.Common.{w64, ◌∙◌, ap, ap₂, option_map, slice_get, sym, subst, List}
use Rattle.std.proofs.lemmas.Int.{to_z-of_z}
use Rattle.lab_records_kept.specs.Lookups.{exact_form}
use Rattle.lab_store_read.specs.Causes.{HasFirst}
use Rattle.lab_store_tables.specs.Meaning.{forms_of}
use Rattle.lab_store_tables.specs.Ready.{tables_of}
use Rattle.lab_store_read.proofs.Readers.{may_read, reads_then}
use Rattle.lab_store_read_forms.specs.Forms.{form_by}
use Rattle.lab_store_read_forms.specs.Shown.{form_read}
use Rattle.lab_store_read_forms.proofs.FormsByCodeFound.{exact_found}
use Rattle.lab_store_read.proofs.Causes.{then_so, unread_so}
use Rattle.lab_store_read_forms.proofs.Below.{first_below, first_own}
use Rattle.sqlite_value.specs.Order.{Row}
use Rattle.lab_store_read_forms.specs.Readable.{HasForm, HasFields, HasWholeForm}
use Rattle.lab_store_read_forms.specs.declared.heads.FormHead.{FormHead}
use Rattle.lab_store_read_forms.specs.FormsByCode.{exact_shown}
use Rattle.lab_store_read_forms.proofs.forms_by_code.exact_form_at.Goals as goal

pub returns-clause-reads : goal.returns-clause-reads
returns-clause-reads g c =
    let t = tables_of (g.D.Readable.state c.args.conn.now) in
    reads_then (rw (to_z-of_z w64 c.args.lab c.ranges.lab) at c.in_ok-rows.ensures.reads) c.form_if.ensures.reads (λ kept rows form is. is
    ∙ ap (option_map (form_by t)) (c.in_ok-head.ensures.value ∙ ap (λ l. option_map form_read (slice_get l 0)) (c.deref.ensures.value ∙ rows))
    ∙ exact_found t kept.rows c.args.lab c.as_str.result.now c.get.result ∙ ap₂ (exact_form (forms_of t c.args.lab)) c.as_str.ensures.value c.get.ensures.value)

pub returns-in_err-head-clause-cause : goal.returns-in_err-head-clause-cause
returns-in_err-head-clause-cause g c =
    let t = tables_of (g.D.Readable.state c.args.conn.now) in
    let read = rw (to_z-of_z w64 c.args.lab c.ranges.lab) at c.in_ok-rows.ensures.reads in
    unread_so read c.in_ok-rows.ensures.cause.limit c.from_residual-in_err-head.result c.from_residual-in_err-head.ensures.1 (λ rows has told.
    let there = subst (λ (l : List Row). HasFirst (HasWholeForm t) l)
    (sym (c.deref.ensures.value ∙ rows ∙ ap₂ (exact_shown t c.args.lab) c.as_str.ensures.value c.get.ensures.value)) has in
    c.in_err-head.ensures.fault told (first_own (HasWholeForm t) HasForm (λ row whole. whole.own) c.deref.result.now there))

pub returns-clause-cause : goal.returns-clause-cause
returns-clause-cause g c =
    let t = tables_of (g.D.Readable.state c.args.conn.now) in
    let read = rw (to_z-of_z w64 c.args.lab c.ranges.lab) at c.in_ok-rows.ensures.reads in
    then_so (may_read read) c.in_ok-rows.ensures.cause.limit c.form_if.ensures.reads c.form_if.ensures.cause (λ rows has.
    let there = subst (λ (l : List Row). HasFirst (HasWholeForm t) l)
    (sym (c.deref.ensures.value ∙ rows ∙ ap₂ (exact_shown t c.args.lab) c.as_str.ensures.value c.get.ensures.value)) has in
    first_below form_read (HasWholeForm t) (λ (one : FormHead). HasFields t one.id) (λ row whole. whole.fields) (slice_get c.deref.result.now 0) c.in_ok-head.head
    c.in_ok-head.ensures.value there)
