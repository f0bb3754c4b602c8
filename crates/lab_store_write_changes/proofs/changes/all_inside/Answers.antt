use Rattle.std.proofs.Common.{◌⊎◌, None, inl, inr, refl}
use Rattle.std.proofs.lemmas.Result.{IfErr-weaker}
use Rattle.lab_store_write.specs.Causes.{FailsTrying}
use Rattle.lab_store_write.specs.Givers.{Knows}
use Rattle.lab_store_write.specs.Tried.{TriedFrom}
use Rattle.lab_store_write_changes.specs.Causes.{OneIsTooMuch}
use Rattle.lab_store_write_changes.specs.Tried.{TriesEach, TriesFramed, TriesAll}
use Rattle.lab_store_write_changes.proofs.Failures.{failed_alike, failed_framed}
use Rattle.lab_store_write_changes.proofs.changes.all_inside.Goals as goal

pub returns-in-Some-clause-failed : goal.returns-in-Some-clause-failed
returns-in-Some-clause-failed g c rules inside clean typed =
    let state = g.W.Writable.state in
    let moment = c.in-Some.some.moment in
    let between = c.in-Some.some.between.now in
    let told = c.in-Some.some.told.now in
    let changes = c.args.changes.now in
    let old = c.args.tx.now in
    let new = c.framed_inside.new.tx in
    let framed = TriesFramed c.args.lab.id moment between told in
    let all = TriesAll c.args.lab.id changes in
    IfErr-weaker c.framed_inside.result (λ e. OneIsTooMuch between ⊎ FailsTrying framed state old new e) (λ e. OneIsTooMuch changes ⊎ FailsTrying all state old new e)
    (λ e why. failed_framed state {tries = framed} all moment between told changes c.in-Some.ensures old new
    (λ tried at it. inr (record { moment = moment; between = between; told = told; frame = c.in-Some.ensures; own = it })) why)
    (c.framed_inside.ensures.failed c.in-Some.ensures.spared rules inside clean typed)

pub returns-in-None-clause-failed : goal.returns-in-None-clause-failed
returns-in-None-clause-failed g c rules inside clean typed =
    let state = g.W.Writable.state in
    let changes = c.args.changes.now in
    let much = OneIsTooMuch changes in
    let old = c.args.tx.now in
    let new = c.each_inside.new.tx in
    let each = TriedFrom (Knows c.args.lab.id None) (TriesEach c.args.lab.id changes) in
    let all = TriesAll c.args.lab.id changes in
    IfErr-weaker c.each_inside.result (λ e. much ⊎ FailsTrying each state old new e) (λ e. much ⊎ FailsTrying all state old new e)
    (λ e why. failed_alike state {tries = each} all much old new (λ tried at it. inl (it tt)) why)
    (c.each_inside.ensures.failed refl rules inside clean typed)
