use Rattle.std.proofs.Common.{◌≡◌, inl, [], ◌∷◌, refl}
use Rattle.sqlite_value.specs.declared.value.Value.TheVariants.{Int}
use Rattle.sqlite.specs.Values.{bound}
use Rattle.lab_store_tables.specs.Rows.{LabRow, number}
use Rattle.lab_store_tables.specs.Changes.{in_lab}
use Rattle.lab_store_write.specs.Statements.{setting_strays}
use Rattle.lab_store_write.specs.Tried.{Only}
use Rattle.lab_store_write.proofs.Writers.{wrote_by, not_asked}
use Rattle.lab_store_write.proofs.LabWrites.{strays_ours, strays_text, sets_strays}
use Rattle.lab_store_write.proofs.labs.set_strays.Goals as goal

pub returns-in_err-strays : goal.returns-in_err-strays
returns-in_err-strays g c = not_asked c.args.tx.now (inl c.in_err-strays.ensures.fault) c.from_residual.result c.from_residual.ensures.1

pub returns : goal.returns
returns g c =
    let old = g.W.Writable.state c.args.tx.now in
    let new = g.W.Writable.state c.run.new.tx in
    let lab = c.args.lab.id in
    let given : bound (c.id_value.result ∷ c.in_ok-strays.strays ∷ []) ≡ Int lab ∷ number c.args.count ∷ [] = λ i. c.id_value.ensures i ∷ c.in_ok-strays.ensures.value i ∷ [] in
    wrote_by {tries = Only (setting_strays lab c.args.count)} strays_text (Int lab ∷ number c.args.count ∷ []) (strays_ours lab c.args.count) (λ _. (refl, refl)) (in_lab lab (λ (one : LabRow). record one { stray = c.args.count })) c.run.ensures.stays given c.run.ensures.runs
    (λ count. sets_strays lab c.args.count old new count)
