use Rattle.std.proofs.Common.{◌≡◌, [], ◌∷◌, refl}
use Rattle.sqlite_value.specs.declared.value.Value.TheVariants.{Int}
use Rattle.sqlite.specs.Values.{bound}
use Rattle.lab_store_tables.specs.Rows.{LabRow, number}
use Rattle.lab_store_tables.specs.Changes.{in_lab}
use Rattle.lab_store_write.specs.Statements.{setting_last}
use Rattle.lab_store_write.specs.Tried.{Only}
use Rattle.lab_store_write.proofs.Writers.{wrote_by}
use Rattle.lab_store_write.proofs.LabWrites.{last_ours, last_text, sets_last}
use Rattle.lab_store_write.proofs.labs.set_last.Goals as goal

pub returns : goal.returns
returns g c =
    let old = g.W.Writable.state c.args.tx.now in
    let new = g.W.Writable.state c.run.new.tx in
    let lab = c.args.lab.id in
    let given : bound (c.id_value.result ∷ c.moment_value.result ∷ []) ≡ Int lab ∷ number c.args.moment ∷ [] = λ i. c.id_value.ensures i ∷ c.moment_value.ensures i ∷ [] in
    wrote_by {tries = Only (setting_last lab c.args.moment)} last_text (Int lab ∷ number c.args.moment ∷ []) (last_ours lab c.args.moment) (λ _. (refl, refl)) (in_lab lab (λ (one : LabRow). record one { last = c.args.moment })) c.run.ensures.stays given c.run.ensures.runs
    (λ count. sets_last lab c.args.moment old new count)
