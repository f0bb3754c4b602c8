use Rattle.std.proofs.Common.{◌≡◌, ℕ, [], ◌∷◌, Option, refl, sym, ap}
use Rattle.sqlite_value.specs.declared.value.Value.TheVariants.{Int}
use Rattle.sqlite.specs.Values.{bound}
use Rattle.lab_store_tables.specs.Rows.{LabRow, number}
use Rattle.lab_store_tables.specs.Changes.{in_lab}
use Rattle.lab_store_write.specs.Statements.{counting_trail}
use Rattle.lab_store_write.specs.Tried.{Only}
use Rattle.lab_store_write.proofs.Writers.{wrote_by, answers_as}
use Rattle.lab_store_write.proofs.LabWrites.{trail_ours, trail_text, sets_trail, row_ours, row_text, sets_row}
use Rattle.lab_store_write.proofs.TrailAddedLemmas.{last_and_count, count_alone}
use Rattle.lab_store_write.proofs.trails.set_trail.Goals as goal

pub returns-in-Some : goal.returns-in-Some
returns-in-Some g c =
    let old = g.W.Writable.state c.args.tx.now in
    let new = g.W.Writable.state c.run.new.tx in
    let lab = c.args.lab.id in
    let count = c.args.count in
    let moment = c.in-Some.moment in
    let given : bound (c.id_value.result ∷ c.moment_value.result ∷ c.ordinal_value.result ∷ []) ≡ Int lab ∷ number moment ∷ number count ∷ [] = λ i. c.id_value.ensures i ∷ c.moment_value.ensures i ∷ c.ordinal_value.ensures i ∷ [] in
    answers_as (wrote_by {tries = Only (counting_trail lab c.args.last count)} row_text (Int lab ∷ number moment ∷ number count ∷ []) (row_ours lab moment count)
    (λ _. (ap (λ (o : Option ℕ). counting_trail lab o count) (sym c.in-Some.is), refl)) (in_lab lab (λ (one : LabRow). record one { last = moment; trail = count })) c.run.ensures.stays given c.run.ensures.runs
    (λ rows. sets_row lab moment count old new rows)) (λ _. last_and_count lab c.args.last moment count old new c.in-Some.is)

pub returns-in-None : goal.returns-in-None
returns-in-None g c =
    let old = g.W.Writable.state c.args.tx.now in
    let new = g.W.Writable.state c.run-in-None.new.tx in
    let lab = c.args.lab.id in
    let count = c.args.count in
    let given : bound (c.id_value-in-None.result ∷ c.ordinal_value-in-None.result ∷ []) ≡ Int lab ∷ number count ∷ [] = λ i. c.id_value-in-None.ensures i ∷ c.ordinal_value-in-None.ensures i ∷ [] in
    answers_as (wrote_by {tries = Only (counting_trail lab c.args.last count)} trail_text (Int lab ∷ number count ∷ []) (trail_ours lab count)
    (λ _. (ap (λ (o : Option ℕ). counting_trail lab o count) (sym c.in-None.is), refl)) (in_lab lab (λ (one : LabRow). record one { trail = count })) c.run-in-None.ensures.stays given c.run-in-None.ensures.runs
    (λ rows. sets_trail lab count old new rows)) (λ _. count_alone lab c.args.last count old new c.in-None.is)
