use Rattle.std.proofs.Common.{◌≡◌, [], ◌∷◌, refl}
use Rattle.sqlite_value.specs.declared.value.Value.TheVariants.{Int}
use Rattle.sqlite.specs.Values.{bound}
use Rattle.lab_people_access.specs.declared.sessions.Closing.TheVariants.{Others}
use Rattle.lab_store_write.specs.Closings.{opened_shown}
use Rattle.lab_store_tables.specs.Rows.{number}
use Rattle.lab_store_write.specs.Statements.{asking_others}
use Rattle.lab_store_write.specs.Tried.{Only}
use Rattle.lab_store_write.proofs.Writers.{rows_found_by}
use Rattle.lab_store_write.proofs.ClosingLemmas.{others_text, others_means, others_ours, others_read}
use Rattle.lab_store_write.proofs.closings.other_rows.Goals as goal

pub returns : goal.returns
returns g c =
    let it = c.query_all.ensures in
    let given : bound (c.id_value.result ∷ c.ordinal_value.result ∷ []) ≡ Int c.args.person.id ∷ number c.args.kept ∷ [] =
    λ i. c.id_value.ensures i ∷ c.ordinal_value.ensures i ∷ [] in
    rows_found_by {tries = Only (asking_others c.args.person.id c.args.kept)} others_text others_means.read (Int c.args.person.id ∷ number c.args.kept ∷ []) (others_ours c.args.person.id c.args.kept) (λ _. (refl, refl)) (opened_shown c.args.person.id (Others c.args.kept))
    given it.same_lender it.survives it.ok it.err (λ rows. others_read _ _ c.args.person.id c.args.kept rows)
