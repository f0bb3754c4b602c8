use Rattle.std.proofs.Common.{◌≡◌, [], ◌∷◌, refl}
use Rattle.sqlite_value.specs.declared.value.Value.TheVariants.{Int, Text}
use Rattle.sqlite.specs.Values.{bound}
use Rattle.lab_store_write.specs.Private.Shown.{persons_shown}
use Rattle.lab_store_write.specs.Statements.{asking_person}
use Rattle.lab_store_write.specs.Tried.{Only}
use Rattle.lab_store_write.proofs.Writers.{rows_found_by, shown_rows}
use Rattle.lab_store_write.proofs.KeyLemmas.{person_text, person_means, person_ours, persons_read}
use Rattle.lab_store_write.proofs.named.person_rows.Goals as goal

pub returns-clause-shown : goal.returns-clause-shown
returns-clause-shown g c =
    let lab = c.args.lab.id in
    let key = c.args.code.now in
    let given : bound (c.id_value.result ∷ c.text_value.result ∷ []) ≡ Int lab ∷ Text key ∷ [] = λ i. c.id_value.ensures i ∷ c.text_value.ensures i ∷ [] in
    shown_rows (g.W.Writable.state c.args.tx.now) (g.W.Writable.state c.query_all.new.self) person_text (Int lab ∷ Text key ∷ []) (person_ours lab key) given
    c.query_all.result c.query_all.ensures.ok

pub returns-clause-found : goal.returns-clause-found
returns-clause-found g c =
    let lab = c.args.lab.id in
    let key = c.args.code.now in
    let it = c.query_all.ensures in
    let given : bound (c.id_value.result ∷ c.text_value.result ∷ []) ≡ Int lab ∷ Text key ∷ [] = λ i. c.id_value.ensures i ∷ c.text_value.ensures i ∷ [] in
    rows_found_by {tries = Only (asking_person lab key)} person_text person_means.read (Int lab ∷ Text key ∷ []) (person_ours lab key) (λ _. (refl, refl)) (persons_shown lab key)
    given it.same_lender it.survives it.ok it.err (λ rows. persons_read _ _ lab key rows)
