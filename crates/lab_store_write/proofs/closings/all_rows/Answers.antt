use Rattle.std.proofs.Common.{◌≡◌, [], ◌∷◌, refl}
use Rattle.sqlite_value.specs.declared.value.Value.TheVariants.{Int}
use Rattle.sqlite.specs.Values.{bound}
use Rattle.lab_people_access.specs.declared.sessions.Closing.TheVariants.{All}
use Rattle.lab_store_write.specs.Closings.{opened_shown}
use Rattle.lab_store_write.specs.Statements.{asking_sessions}
use Rattle.lab_store_write.specs.Tried.{Only}
use Rattle.lab_store_write.proofs.Writers.{rows_found_by}
use Rattle.lab_store_write.proofs.ClosingLemmas.{all_text, all_means, all_ours, all_read}
use Rattle.lab_store_write.proofs.closings.all_rows.Goals as goal

pub returns : goal.returns
returns g c =
    let it = c.query_all.ensures in
    let given : bound (c.id_value.result ∷ []) ≡ Int c.args.person.id ∷ [] = λ i. c.id_value.ensures i ∷ [] in
    rows_found_by {tries = Only (asking_sessions c.args.person.id)} all_text all_means.read (Int c.args.person.id ∷ []) (all_ours c.args.person.id) (λ _. (refl, refl)) (opened_shown c.args.person.id All)
    given it.same_lender it.survives it.ok it.err (λ rows. all_read _ _ c.args.person.id rows)
