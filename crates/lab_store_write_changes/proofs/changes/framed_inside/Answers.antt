use Rattle.std.proofs.Common.{◌⊎◌, Some, inl, inr, sym, subst, arith}
use Rattle.std.proofs.lemmas.Result.{IfErr-weaker}
use Rattle.sqlite.specs.State.{HasCleanDisk}
use Rattle.lab_store_tables.specs.Rows.{Tables}
use Rattle.lab_store_tables.specs.Changes.{InTurn}
use Rattle.lab_store_tables.specs.Ready.{tables_of}
use Rattle.lab_store_tables.specs.Steps.{StepsBy}
use Rattle.lab_store_write.specs.Causes.{FailsTrying}
use Rattle.lab_store_write.specs.Givers.{Knows}
use Rattle.lab_store_write.specs.Tried.{TriedFrom, TriesToAddTold}
use Rattle.lab_store_write.proofs.Inside.{none_then}
use Rattle.lab_store_write.proofs.Trying.{found_first}
use Rattle.lab_store_write.proofs.Writers.{tries_as}
use Rattle.lab_store_write_changes.specs.Causes.{OneIsTooMuch}
use Rattle.lab_store_write_changes.specs.Tried.{TriesEach, TriesFramed}
use Rattle.lab_store_write_changes.proofs.FramedSteps.{on_ok_by, keeps_spared, framed_made}
use Rattle.lab_store_write_changes.proofs.Failures.{told_so, failed_on, failed_behind_trying}
use Rattle.lab_store_write_changes.proofs.changes.framed_inside.Goals as goal

pub returns-clause-made : goal.returns-clause-made
returns-clause-made g c =
    let old = g.W.Writable.state c.args.tx.now in
    let begun = g.W.Writable.state c.giver_if_any.new.tx in
    let mid = g.W.Writable.state c.each_inside.new.tx in
    let new = g.W.Writable.state c.add_told.new.tx in
    let found = c.in_ok-giver.ensures in
    let did = c.in_ok-each_inside.ensures in
    let ends = c.add_told.ensures in
    let early : HasCleanDisk new → HasCleanDisk mid = λ clean. omega (arith, ends.stays.survives.clean) in
    let first : HasCleanDisk new → HasCleanDisk begun = λ clean. omega (arith, ends.stays.survives.clean, did.stays.survives.clean) in
    λ spared inside clean.
    let named = found.made inside (first clean) in
    on_ok_by c.add_told.result
    (λ step rules. framed_made c.args.lab.id c.args.moment c.args.told.now c.in_ok-giver.giver c.args.between.now old begun mid new named
    (did.made (keeps_spared c.in_ok-giver.giver c.args.between.now spared) named.inside (early clean)) step spared rules)
    (ends.made (did.inside named.inside (early clean)) clean)

pub returns-in_err-giver-clause-failed : goal.returns-in_err-giver-clause-failed
returns-in_err-giver-clause-failed g c spared rules inside clean typed =
    let framed = TriesFramed c.args.lab.id c.args.moment c.args.between.now c.args.told.now in
    failed_on g.W.Writable.state framed (OneIsTooMuch c.args.between.now) c.args.tx.now c.giver_if_any.new.tx
    (told_so ((tries_as {more = framed} (λ before tried at it. inl it) c.in_err-giver.ensures).failed inside clean typed)) c.from_residual.result c.from_residual.ensures.1

pub returns-in_err-each_inside-clause-failed : goal.returns-in_err-each_inside-clause-failed
returns-in_err-each_inside-clause-failed g c spared rules inside clean typed =
    let state = g.W.Writable.state in
    let begun = state c.giver_if_any.new.tx in
    let mid = state c.each_inside.new.tx in
    let lab = c.args.lab.id in
    let between = c.args.between.now in
    let giver = c.in_ok-giver.giver in
    let found = c.in_ok-giver.ensures in
    let did = c.in_err-each_inside.ensures in
    let early : HasCleanDisk mid → HasCleanDisk begun = λ clean. omega (arith, did.stays.survives.clean) in
    let named = found.made inside (early clean) in
    let there = named.made typed in
    let each = TriesEach lab between in
    let framed = TriesFramed lab c.args.moment between c.args.told.now in
    failed_on state framed (OneIsTooMuch between) c.args.tx.now c.each_inside.new.tx
    (failed_behind_trying state {tries = TriedFrom (Knows lab giver) each} framed (OneIsTooMuch between) c.args.tx.now c.giver_if_any.new.tx c.each_inside.new.tx
    (λ tried at it. inr (inl (found_first each there.1.1 (it (subst (Knows lab giver) (sym there.1.1) there.1.0)))))
    found.stays.survives (did.failed (keeps_spared giver between spared) (named.sound typed rules) named.inside clean there.0))
    c.from_residual-in_err-each_inside.result c.from_residual-in_err-each_inside.ensures.1

pub returns-clause-failed : goal.returns-clause-failed
returns-clause-failed g c spared rules inside clean typed =
    let state = g.W.Writable.state in
    let old = state c.args.tx.now in
    let begun = state c.giver_if_any.new.tx in
    let mid = state c.each_inside.new.tx in
    let new = state c.add_told.new.tx in
    let lab = c.args.lab.id in
    let between = c.args.between.now in
    let giver = c.in_ok-giver.giver in
    let found = c.in_ok-giver.ensures in
    let did = c.in_ok-each_inside.ensures in
    let ends = c.add_told.ensures in
    let early : HasCleanDisk new → HasCleanDisk mid = λ clean. omega (arith, ends.stays.survives.clean) in
    let first : HasCleanDisk new → HasCleanDisk begun = λ clean. omega (arith, ends.stays.survives.clean, did.stays.survives.clean) in
    let named = found.made inside (first clean) in
    let there = named.made typed in
    let steps = did.made (keeps_spared giver between spared) named.inside (early clean) (named.sound typed rules) in
    let done = steps.made there.0 in
    let both = done.1 (subst (Knows lab giver) (sym there.1.1) there.1.0) in
    let turns = subst (λ (t : Tables). InTurn (StepsBy lab) between t (tables_of mid)) there.1.1 both.0 in
    let much = OneIsTooMuch between in
    let last = TriedFrom (Knows lab giver) (TriesToAddTold lab (Some c.args.moment) c.args.told.now) in
    let framed = TriesFramed lab c.args.moment between c.args.told.now in
    IfErr-weaker c.add_told.result (λ e. ⊥ ⊎ FailsTrying last state c.each_inside.new.tx c.add_told.new.tx e) (λ e. much ⊎ FailsTrying framed state c.args.tx.now c.add_told.new.tx e)
    (λ e why. failed_behind_trying state {tries = last} framed much c.args.tx.now c.each_inside.new.tx c.add_told.new.tx
    (λ tried at it. inr (inr (tables_of mid, turns, it both.1))) (none_then old begun mid found.stays.survives did.stays.survives) (told_so why))
    (ends.failed steps.inside clean done.0)
