use Rattle.std.proofs.Common.{◌≡◌, [], ◌∷◌, refl}
use Rattle.sqlite_value.specs.declared.value.Value.TheVariants.{Int}
use Rattle.sqlite.specs.Values.{bound}
use Rattle.lab_store_write.specs.Closings.{close_one}
use Rattle.lab_store_write.specs.Statements.{closing_session}
use Rattle.lab_store_write.specs.Tried.{Only}
use Rattle.lab_store_write.proofs.Writers.{wrote_by}
use Rattle.lab_store_write.proofs.ClosingWrites.{close_ours, close_text, sets_close}
use Rattle.lab_store_write.proofs.closings.close_session.Goals as goal

pub returns : goal.returns
returns g c =
    let old = g.W.Writable.state c.args.tx.now in
    let new = g.W.Writable.state c.run.new.tx in
    let given : bound (c.id_value.result ∷ []) ≡ Int c.args.session.id ∷ [] = λ i. c.id_value.ensures i ∷ [] in
    wrote_by {tries = Only (closing_session c.args.session.id)} close_text (Int c.args.session.id ∷ []) (close_ours c.args.session.id) (λ _. (refl, refl)) (close_one c.args.session.id) c.run.ensures.stays given c.run.ensures.runs
    (λ count. sets_close c.args.session.id old new count)
