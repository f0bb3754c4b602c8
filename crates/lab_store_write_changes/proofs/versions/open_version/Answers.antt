use Rattle.std.proofs.Common.{ℤ, inl, inr, sym, ap, subst, ◌∙◌}
use Rattle.lab_records_kept.specs.declared.changes.Change.TheVariants.{VersionOpened}
use Rattle.lab_store_tables.specs.Rows.{Tables}
use Rattle.lab_store_tables.specs.Changes.{record_named, set_current, AddsVersion}
use Rattle.lab_store_write.specs.Calls.{Steps}
use Rattle.lab_store_write.specs.Private.Calls.{Becomes}
use Rattle.lab_store_write.specs.Givers.{Knows}
use Rattle.lab_store_write.specs.Tried.{Only, TriedFrom}
use Rattle.lab_store_write_changes.specs.Statements.{setting_current}
use Rattle.lab_store_write_changes.specs.Tried.{TriesToAddVersion, TriesIn}
use Rattle.lab_store_write.proofs.Trying.{found_first}
use Rattle.lab_store_write.proofs.Writers.{and_two, fails_so_by, then_fails_by, then_third_fails_by}
use Rattle.lab_store_write_changes.proofs.RecordsInTurn.{row_of_id, version_opened}
use Rattle.lab_store_write_changes.proofs.versions.open_version.Goals as goal

pub returns-in_err-kept : goal.returns-in_err-kept
returns-in_err-kept g c =
    let lab = c.args.lab.id in
    let wanted = c.args.wanted in
    let version = c.args.version.now in
    let knows = Knows lab c.args.giver in
    fails_so_by c.in_err-kept.ensures {more = TriedFrom knows (TriesIn lab (VersionOpened wanted version))} (λ before tried at it known. inl it) c.from_residual.result c.from_residual.ensures.1

pub returns-in_err-add_version : goal.returns-in_err-add_version
returns-in_err-add_version g c =
    let lab = c.args.lab.id in
    let wanted = c.args.wanted in
    let version = c.args.version.now in
    let knows = Knows lab c.args.giver in
    let id = c.in_ok-kept.kept.id in
    let own = TriesToAddVersion lab id version in
    then_fails_by c.in_ok-kept.ensures {tries = TriedFrom knows own} {more = TriedFrom knows (TriesIn lab (VersionOpened wanted version))} c.in_err-add_version.ensures
    (λ before mid tried at found it known.
    let row = row_of_id (record_named before lab wanted) id found.0 in
    inr (row.0, row.1, inl (subst (λ (i : ℤ). TriesToAddVersion lab i version before tried at) (sym row.2) (found_first own found.1 (it (subst knows (sym found.1) known))))))
    c.from_residual-in_err-add_version.result c.from_residual-in_err-add_version.ensures.1

pub returns-in_err-set_current : goal.returns-in_err-set_current
returns-in_err-set_current g c =
    let lab = c.args.lab.id in
    let wanted = c.args.wanted in
    let version = c.args.version.now in
    let knows = Knows lab c.args.giver in
    let id = c.in_ok-kept.kept.id in
    then_third_fails_by c.in_ok-kept.ensures c.in_ok-add_version.ensures {third = Only (setting_current id c.number.result)} {more = TriedFrom knows (TriesIn lab (VersionOpened wanted version))} c.in_err-set_current.ensures
    (λ before mid opened tried at found added it known.
    let row = row_of_id (record_named before lab wanted) id found.0 in
    let made = subst (λ (t : Tables). AddsVersion lab id version t opened) found.1 (added (subst knows (sym found.1) known)) in
    inr (
      row.0,
      row.1,
      inr (
        opened,
        subst (λ (i : ℤ). AddsVersion lab i version before opened) (sym row.2) made,
        (it.0 ∙ ap (setting_current id) c.number.ensures ∙ ap (λ (i : ℤ). setting_current i version.origin.number) (sym row.2), it.1),
      ),
    ))
    c.from_residual-in_err-set_current.result c.from_residual-in_err-set_current.ensures.1

pub returns : goal.returns
returns g c =
    let three = g.W.Writable.state c.add_version.new.tx in
    let four = g.W.Writable.state c.set_current.new.tx in
    and_two c.in_ok-kept.ensures c.in_ok-add_version.ensures c.in_ok-set_current.ensures (λ found added set.
    version_opened c.args.lab.id (Knows c.args.lab.id c.args.giver) c.args.wanted c.args.version.now c.in_ok-kept.kept.id _ _ _ _ found added
    (subst (λ number. Steps (Becomes (set_current c.in_ok-kept.kept.id number)) three four) c.number.ensures set))
