use Rattle.std.proofs.Common.{◌≡◌, [], ◌∷◌, refl}
use Rattle.sqlite_value.specs.declared.value.Value.TheVariants.{Int}
use Rattle.sqlite.specs.Values.{bound}
use Rattle.lab_store_tables.specs.Rows.{number}
use Rattle.lab_store_tables.specs.Changes.{set_current}
use Rattle.lab_store_write_changes.specs.Statements.{setting_current}
use Rattle.lab_store_write.specs.Tried.{Only}
use Rattle.lab_store_write.proofs.Writers.{wrote_by}
use Rattle.lab_store_write_changes.proofs.RecordWrites.{current_ours, current_text, sets_current}
use Rattle.lab_store_write_changes.proofs.versions.set_current.Goals as goal

pub returns : goal.returns
returns g c =
    let old = g.W.Writable.state c.args.tx.now in
    let new = g.W.Writable.state c.run.new.tx in
    let given : bound (c.id_value.result ∷ c.ordinal_value.result ∷ []) ≡ Int c.args.kept.id ∷ number c.args.version ∷ [] = λ i. c.id_value.ensures i
    ∷ c.ordinal_value.ensures i ∷ [] in
    wrote_by {tries = Only (setting_current c.args.kept.id c.args.version)} current_text (Int c.args.kept.id ∷ number c.args.version ∷ []) (current_ours c.args.kept.id c.args.version) (λ _. (refl, refl)) (set_current c.args.kept.id c.args.version) c.run.ensures.stays given c.run.ensures.runs
    (λ count. sets_current c.args.kept.id c.args.version old new count)
