use Rattle.std.proofs.Common.{◌≡◌, [], ◌∷◌, refl}
use Rattle.sqlite_value.specs.declared.value.Value.TheVariants.{Int, Text}
use Rattle.sqlite.specs.Values.{bound}
use Rattle.lab_store_write_changes.specs.Private.FormsShown.{forms_shown}
use Rattle.lab_store_tables.specs.Rows.{number}
use Rattle.lab_store_write_changes.specs.Statements.{asking_form}
use Rattle.lab_store_write.specs.Tried.{Only}
use Rattle.lab_store_write.proofs.Writers.{rows_found_by, shown_rows}
use Rattle.lab_store_write_changes.proofs.RecordKeyLemmas.{form_text, form_means, form_ours, forms_read}
use Rattle.lab_store_write_changes.proofs.named_forms.form_rows.Goals as goal

pub returns-clause-shown : goal.returns-clause-shown
returns-clause-shown g c =
    let given : bound (c.id_value.result ∷ c.text_value.result ∷ c.ordinal_value.result ∷ []) ≡ Int c.args.lab.id ∷ Text c.args.code.now
    ∷ number c.args.version ∷ [] = λ i. c.id_value.ensures i ∷ c.text_value.ensures i ∷ c.ordinal_value.ensures i ∷ [] in
    shown_rows (g.W.Writable.state c.args.tx.now) (g.W.Writable.state c.query_all.new.self) form_text (Int c.args.lab.id ∷ Text c.args.code.now ∷ number c.args.version ∷ [])
    (form_ours c.args.lab.id c.args.code.now c.args.version) given c.query_all.result c.query_all.ensures.ok

pub returns-clause-found : goal.returns-clause-found
returns-clause-found g c =
    let it = c.query_all.ensures in
    let given : bound (c.id_value.result ∷ c.text_value.result ∷ c.ordinal_value.result ∷ []) ≡ Int c.args.lab.id ∷ Text c.args.code.now
    ∷ number c.args.version ∷ [] = λ i. c.id_value.ensures i ∷ c.text_value.ensures i ∷ c.ordinal_value.ensures i ∷ [] in
    rows_found_by {tries = Only (asking_form c.args.lab.id c.args.code.now c.args.version)} form_text form_means.read (Int c.args.lab.id ∷ Text c.args.code.now ∷ number c.args.version ∷ []) (form_ours c.args.lab.id c.args.code.now c.args.version) (λ _. (refl, refl))
    (forms_shown c.args.lab.id c.args.code.now c.args.version)
    given it.same_lender it.survives it.ok it.err (λ rows. forms_read _ _ c.args.lab.id c.args.code.now c.args.version rows)
