use Rattle.std.proofs.Common.{arith}
use Rattle.lab_store_tables.specs.Changes.{AddsVersion}
use Rattle.lab_store_write.specs.Givers.{Knows}
use Rattle.lab_store_write.specs.Private.Givers.{EachKnowing}
use Rattle.lab_store_write.specs.Tried.{TriedFrom}
use Rattle.lab_store_write_changes.specs.Tried.{TriesToAddVersion, TriesToAddVersions}
use Rattle.lab_store_write_changes.proofs.Leaving.{version_leaves}
use Rattle.lab_store_write_changes.proofs.Trying.{in_turn_knowing}
use Rattle.lab_store_write.proofs.Writers.{turns_begun, turns_on, turns_ended, then_fails_by}
use Rattle.lab_store_write_changes.proofs.records.add_versions.Goals as goal

pub loop-one-init : goal.loop-one-init
loop-one-init g c = turns_begun (EachKnowing c.args.lab.id c.args.giver (AddsVersion c.args.lab.id c.args.kept.id)) c.args.tx.now tt

pub loop-one-preserved : goal.loop-one-preserved
loop-one-preserved g c =
    turns_on (EachKnowing c.args.lab.id c.args.giver (AddsVersion c.args.lab.id c.args.kept.id)) c.args.versions.now c.loop-one.one-index c.loop-one.invariant c.one-item.result c.one-item.is (omega (arith, c.loop-one-test.true))
    c.in_ok-add_version.ensures

pub returns-in_err-add_version : goal.returns-in_err-add_version
returns-in_err-add_version g c =
    let knows = Knows c.args.lab.id c.args.giver in
    then_fails_by c.loop-one.invariant {tries = TriedFrom knows (TriesToAddVersion c.args.lab.id c.args.kept.id c.one-item.result)} {more = TriedFrom knows (TriesToAddVersions c.args.lab.id c.args.kept.id c.args.versions.now)} c.in_err-add_version.ensures
    (in_turn_knowing c.args.lab.id c.args.giver (AddsVersion c.args.lab.id c.args.kept.id) (version_leaves c.args.lab.id c.args.kept.id) (TriesToAddVersion c.args.lab.id c.args.kept.id) c.args.versions.now c.loop-one.one-index c.one-item.result c.one-item.is (omega (arith, c.loop-one-test.true)))
    c.from_residual.result c.from_residual.ensures.1

pub returns : goal.returns
returns g c = turns_ended (EachKnowing c.args.lab.id c.args.giver (AddsVersion c.args.lab.id c.args.kept.id)) c.args.versions.now c.loop-one.one-index c.loop-one.invariant (omega (arith, c.loop-one-test.false))
