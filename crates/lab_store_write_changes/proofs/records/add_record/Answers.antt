use Rattle.std.proofs.Common.{◌≡◌, ℤ, pos, List, inl, inr, ap, subst, ◌∙◌}
use Rattle.lab_store_tables.specs.Changes.{InTurn, AddsVersion}
use Rattle.lab_store_write.specs.Calls.{Steps}
use Rattle.sqlite_keyed.specs.Keyed.{next_key}
use Rattle.lab_records_kept.specs.declared.changes.Change.TheVariants.{RecordAdded}
use Rattle.lab_records_kept.specs.declared.records.Version.{Version}
use Rattle.lab_store_tables.specs.Rows.{LabRow, Tables, record_id}
use Rattle.lab_store_tables.specs.Changes.{in_lab, record_row_of}
use Rattle.lab_store_write.specs.Givers.{Knows}
use Rattle.lab_store_write.specs.Private.Givers.{EachKnowing}
use Rattle.lab_store_write.specs.Tried.{Over, Only, TriedFrom}
use Rattle.lab_store_write_changes.specs.RecordsAdded.{with_record}
use Rattle.lab_store_write_changes.specs.Statements.{adding_record, counting_records}
use Rattle.lab_store_write_changes.specs.Tried.{TriesToAddVersions, TriesIn, with_counted}
use Rattle.lab_store_write.proofs.Givers.{known_still}
use Rattle.lab_store_write.proofs.Trying.{found_first}
use Rattle.lab_store_write_changes.proofs.Leaving.{persons_of}
use Rattle.lab_store_write.proofs.Writers.{and_three, both, fails_so_by, then_fails_by, then_third_fails_by}
use Rattle.lab_store_write_changes.proofs.RecordsInTurn.{record_added}
use Rattle.lab_store_write_changes.proofs.records.add_record.Goals as goal

pub returns-in_err-form : goal.returns-in_err-form
returns-in_err-form g c =
    let lab = c.args.lab.id in
    let kept = c.args.kept.now in
    let knows = Knows lab c.args.giver in
    fails_so_by c.in_err-form.ensures {more = TriedFrom knows (TriesIn lab (RecordAdded kept))} (λ before tried at it known. inl it) c.from_residual.result c.from_residual.ensures.1

pub returns-in_err-id : goal.returns-in_err-id
returns-in_err-id g c =
    let lab = c.args.lab.id in
    let kept = c.args.kept.now in
    let knows = Knows lab c.args.giver in
    let form = c.in_ok-form.form.id in
    let own = Only (adding_record (record_row_of lab (pos 0) form kept)) in
    then_fails_by c.in_ok-form.ensures {tries = own} {more = TriedFrom knows (TriesIn lab (RecordAdded kept))} c.in_err-id.ensures
    (λ before mid tried at found it known. inr (form, found.0, inl (found_first own found.1 it)))
    c.from_residual-in_err-id.result c.from_residual-in_err-id.ensures.1

pub returns-in_err-set_records : goal.returns-in_err-set_records
returns-in_err-set_records g c =
    let lab = c.args.lab.id in
    let kept = c.args.kept.now in
    let knows = Knows lab c.args.giver in
    let form = c.in_ok-form.form.id in
    let sent = counting_records lab kept.number in
    then_third_fails_by c.in_ok-form.ensures c.in_ok-id.ensures {third = Only sent} {more = TriedFrom knows (TriesIn lab (RecordAdded kept))} c.in_err-set_records.ensures
    (λ before mid late tried at found placed it known. inr (
      form,
      found.0,
      inr (inl (subst (λ (t : Tables). Over sent t tried at) (placed.1 ∙ ap (with_record lab form kept) found.1) it)),
    ))
    c.from_residual-in_err-set_records.result c.from_residual-in_err-set_records.ensures.1

pub returns-in_err-add_versions : goal.returns-in_err-add_versions
returns-in_err-add_versions g c =
    let lab = c.args.lab.id in
    let kept = c.args.kept.now in
    let knows = Knows lab c.args.giver in
    let form = c.in_ok-form.form.id in
    let id = c.in_ok-id.id.id in
    then_fails_by (both (both c.in_ok-form.ensures c.in_ok-id.ensures) c.in_ok-set_records.ensures) {tries = TriedFrom knows (TriesToAddVersions lab id c.as_slice.result.now)} {more = TriedFrom knows (TriesIn lab (RecordAdded kept))} c.in_err-add_versions.ensures
    (λ before counted tried at three it known.
    let found = three.1.1 in
    let placed = three.1.2 in
    let next = next_key record_id before.records in
    let is : id ≡ next = placed.0 ∙ ap (λ (t : Tables). next_key record_id t.records) found.1 in
    let put : counted ≡ with_counted lab form kept before =
    three.2 ∙ ap (in_lab lab (λ (one : LabRow). record one { records = kept.number })) (placed.1 ∙ ap (with_record lab form kept) found.1) in
    let below = subst (λ (versions : List Version). TriesToAddVersions lab id versions counted tried at) c.as_slice.ensures (it (known_still lab c.args.giver before counted (ap persons_of put) known)) in
    inr (
      form,
      found.0,
      inr (inr (subst (λ (t : Tables). TriesToAddVersions lab next kept.versions t tried at) put
          (subst (λ (i : ℤ). TriesToAddVersions lab i kept.versions counted tried at) is below))),
    ))
    c.from_residual-in_err-add_versions.result c.from_residual-in_err-add_versions.ensures.1

pub returns : goal.returns
returns g c =
    let four = g.W.Writable.state c.set_records.new.tx in
    let five = g.W.Writable.state c.add_versions.new.tx in
    and_three c.in_ok-form.ensures c.in_ok-id.ensures c.in_ok-set_records.ensures c.in_ok-add_versions.ensures (λ found placed counted added.
    record_added c.args.lab.id c.args.giver c.args.kept.now c.in_ok-form.form.id c.in_ok-id.id.id _ _ _ _ _ found placed counted
    (subst (λ versions. Steps (InTurn (EachKnowing c.args.lab.id c.args.giver (AddsVersion c.args.lab.id c.in_ok-id.id.id)) versions) four five) c.as_slice.ensures added))
