use Rattle.std.proofs.Common.{w64, ◌∙◌, ap, option_map, sym, subst, List}
use Rattle.std.proofs.lemmas.Int.{to_z-of_z}
use Rattle.lab_records_kept.specs.Lookups.{last_of, last_form}
use Rattle.lab_store_tables.specs.Meaning.{forms_of}
use Rattle.lab_store_tables.specs.Ready.{tables_of}
use Rattle.lab_store_read.proofs.Readers.{may_read, reads_then}
use Rattle.lab_store_read_forms.specs.Forms.{form_by}
use Rattle.lab_store_read_forms.specs.Shown.{form_read}
use Rattle.lab_store_read_forms.proofs.FormsByCodeFound.{last_found}
use Rattle.lab_store_read.proofs.Causes.{then_so, unread_so}
use Rattle.lab_store_read_forms.proofs.Below.{first_below, last_own, HasLast}
use Rattle.sqlite_value.specs.Order.{Row}
use Rattle.lab_store_read_forms.specs.Readable.{HasForm, HasFields, HasWholeForm}
use Rattle.lab_store_read_forms.specs.declared.heads.FormHead.{FormHead}
use Rattle.lab_store_read_forms.specs.FormsByCode.{form_versions_shown}
use Rattle.lab_store_read_forms.proofs.forms_by_code.last_form_at.Goals as goal

pub returns-clause-reads : goal.returns-clause-reads
returns-clause-reads g c =
    let t = tables_of (g.D.Readable.state c.args.conn.now) in
    reads_then (rw (to_z-of_z w64 c.args.lab c.ranges.lab) at c.in_ok-rows.ensures.reads) c.form_if.ensures.reads (λ kept rows form is. is
    ∙ ap (option_map (form_by t)) (c.in_ok-head.ensures.value ∙ ap (λ l. option_map form_read (last_of l)) (c.deref.ensures.value ∙ rows))
    ∙ last_found t c.args.lab c.as_str.result.now ∙ ap (last_form (forms_of t c.args.lab)) c.as_str.ensures.value)

pub returns-in_err-head-clause-cause : goal.returns-in_err-head-clause-cause
returns-in_err-head-clause-cause g c =
    let t = tables_of (g.D.Readable.state c.args.conn.now) in
    let read = rw (to_z-of_z w64 c.args.lab c.ranges.lab) at c.in_ok-rows.ensures.reads in
    unread_so read c.in_ok-rows.ensures.cause.limit c.from_residual-in_err-head.result c.from_residual-in_err-head.ensures.1 (λ rows has told.
    let there = subst (λ (l : List Row). HasLast (HasWholeForm t) l)
    (sym (c.deref.ensures.value ∙ rows ∙ ap (form_versions_shown t c.args.lab) c.as_str.ensures.value)) has in
    c.in_err-head.ensures.fault told (last_own (HasWholeForm t) HasForm (λ row whole. whole.own) c.deref.result.now there))

pub returns-clause-cause : goal.returns-clause-cause
returns-clause-cause g c =
    let t = tables_of (g.D.Readable.state c.args.conn.now) in
    let read = rw (to_z-of_z w64 c.args.lab c.ranges.lab) at c.in_ok-rows.ensures.reads in
    then_so (may_read read) c.in_ok-rows.ensures.cause.limit c.form_if.ensures.reads c.form_if.ensures.cause (λ rows has.
    let there = subst (λ (l : List Row). HasLast (HasWholeForm t) l)
    (sym (c.deref.ensures.value ∙ rows ∙ ap (form_versions_shown t c.args.lab) c.as_str.ensures.value)) has in
    first_below form_read (HasWholeForm t) (λ (one : FormHead). HasFields t one.id) (λ row whole. whole.fields) (last_of c.deref.result.now) c.in_ok-head.head
    c.in_ok-head.ensures.value there)
