use Rattle.std.proofs.Common.{◌≡◌, [], ◌∷◌, refl}
use Rattle.sqlite_value.specs.declared.value.Value.TheVariants.{Int}
use Rattle.sqlite.specs.Values.{bound}
use Rattle.lab_store_tables.specs.Rows.{LabRow, number}
use Rattle.lab_store_tables.specs.Changes.{in_lab}
use Rattle.lab_store_write_changes.specs.Statements.{counting_records}
use Rattle.lab_store_write.specs.Tried.{Only}
use Rattle.lab_store_write.proofs.Writers.{wrote_by}
use Rattle.lab_store_write.proofs.LabWrites.{records_ours, records_text, sets_records}
use Rattle.lab_store_write_changes.proofs.records.set_records.Goals as goal

pub returns : goal.returns
returns g c =
    let old = g.W.Writable.state c.args.tx.now in
    let new = g.W.Writable.state c.run.new.tx in
    let lab = c.args.lab.id in
    let given : bound (c.id_value.result ∷ c.ordinal_value.result ∷ []) ≡ Int lab ∷ number c.args.count ∷ [] = λ i. c.id_value.ensures i
    ∷ c.ordinal_value.ensures i ∷ [] in
    wrote_by {tries = Only (counting_records lab c.args.count)} records_text (Int lab ∷ number c.args.count ∷ []) (records_ours lab c.args.count) (λ _. (refl, refl)) (in_lab lab (λ (one : LabRow). record one { records = c.args.count })) c.run.ensures.stays given c.run.ensures.runs
    (λ count. sets_records lab c.args.count old new count)
