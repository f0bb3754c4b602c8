use Rattle.std.proofs.Common.{◌≡◌, ℤ, pos, List, inl, inr, ap, subst, ◌∙◌}
use Rattle.lab_store_tables.specs.Changes.{InTurn, AddsEntry, AddsSignature}
use Rattle.lab_store_write.specs.Calls.{Steps}
use Rattle.sqlite_keyed.specs.Keyed.{next_key}
use Rattle.lab_seal_versions.specs.declared.rows.EntryRow.{EntryRow as Entry}
use Rattle.lab_records_kept.specs.declared.records.Signature.{Signature}
use Rattle.lab_store_tables.specs.Rows.{Tables, version_id}
use Rattle.lab_store_tables.specs.Changes.{version_row_of}
use Rattle.lab_store_write.specs.Givers.{Knows}
use Rattle.lab_store_write.specs.Private.Givers.{EachKnowing}
use Rattle.lab_store_write.specs.Tried.{Only, TriedFrom}
use Rattle.lab_store_write_changes.specs.RecordsAdded.{with_version}
use Rattle.lab_store_write_changes.specs.Statements.{adding_version}
use Rattle.lab_store_write_changes.specs.Tried.{TriesToAddEntries, TriesToAddSignatures, TriesToAddVersion}
use Rattle.lab_store_write.proofs.Givers.{known_still, known_turns}
use Rattle.lab_store_write.proofs.Trying.{found_first}
use Rattle.lab_store_write_changes.proofs.Leaving.{persons_of, entry_leaves}
use Rattle.lab_store_write.proofs.Writers.{and_three, both, fails_so_by, then_fails_by, then_third_fails_by}
use Rattle.lab_store_write_changes.proofs.RecordsInTurn.{version_added}
use Rattle.lab_store_write_changes.proofs.versions.add_version.Goals as goal

pub returns-in_err-opener : goal.returns-in_err-opener
returns-in_err-opener g c =
    let lab = c.args.lab.id in
    let kept = c.args.kept.id in
    let version = c.args.version.now in
    let knows = Knows lab c.args.giver in
    fails_so_by c.in_err-opener.ensures {more = TriedFrom knows (TriesToAddVersion lab kept version)} (λ before tried at it known. inl it) c.from_residual.result c.from_residual.ensures.1

pub returns-in_err-id : goal.returns-in_err-id
returns-in_err-id g c =
    let lab = c.args.lab.id in
    let kept = c.args.kept.id in
    let version = c.args.version.now in
    let knows = Knows lab c.args.giver in
    let opener = c.in_ok-opener.opener.id in
    let own = Only (adding_version (version_row_of kept (pos 0) opener version)) in
    then_fails_by c.in_ok-opener.ensures {tries = own} {more = TriedFrom knows (TriesToAddVersion lab kept version)} c.in_err-id.ensures
    (λ before mid tried at found it known. inr (opener, found.0 known, inl (found_first own found.1 it)))
    c.from_residual-in_err-id.result c.from_residual-in_err-id.ensures.1

pub returns-in_err-add_entries : goal.returns-in_err-add_entries
returns-in_err-add_entries g c =
    let lab = c.args.lab.id in
    let kept = c.args.kept.id in
    let version = c.args.version.now in
    let knows = Knows lab c.args.giver in
    let opener = c.in_ok-opener.opener.id in
    let id = c.in_ok-id.id.id in
    then_third_fails_by c.in_ok-opener.ensures c.in_ok-id.ensures {third = TriedFrom knows (TriesToAddEntries lab id c.rows.result.now)} {more = TriedFrom knows (TriesToAddVersion lab kept version)} c.in_err-add_entries.ensures
    (λ before mid late tried at found placed it known.
    let next = next_key version_id before.versions in
    let is : id ≡ next = placed.0 ∙ ap (λ (t : Tables). next_key version_id t.versions) found.1 in
    let put : late ≡ with_version kept opener version before = placed.1 ∙ ap (with_version kept opener version) found.1 in
    let below = subst (λ (rows : List Entry). TriesToAddEntries lab id rows late tried at) c.rows.ensures (it (known_still lab c.args.giver before late (ap persons_of put) known)) in
    inr (
      opener,
      found.0 known,
      inr (inl (subst (λ (t : Tables). TriesToAddEntries lab next version.rows t tried at) put
          (subst (λ (i : ℤ). TriesToAddEntries lab i version.rows late tried at) is below))),
    ))
    c.from_residual-in_err-add_entries.result c.from_residual-in_err-add_entries.ensures.1

pub returns-in_err-add_signatures : goal.returns-in_err-add_signatures
returns-in_err-add_signatures g c =
    let lab = c.args.lab.id in
    let kept = c.args.kept.id in
    let version = c.args.version.now in
    let knows = Knows lab c.args.giver in
    let opener = c.in_ok-opener.opener.id in
    let id = c.in_ok-id.id.id in
    then_fails_by (both (both c.in_ok-opener.ensures c.in_ok-id.ensures) c.in_ok-add_entries.ensures) {tries = TriedFrom knows (TriesToAddSignatures lab id c.as_slice.result.now)} {more = TriedFrom knows (TriesToAddVersion lab kept version)} c.in_err-add_signatures.ensures
    (λ before entered tried at three it known.
    let late = three.0 in
    let found = three.1.1 in
    let placed = three.1.2 in
    let next = next_key version_id before.versions in
    let is : id ≡ next = placed.0 ∙ ap (λ (t : Tables). next_key version_id t.versions) found.1 in
    let put : late ≡ with_version kept opener version before = placed.1 ∙ ap (with_version kept opener version) found.1 in
    let rows = known_turns lab c.args.giver (AddsEntry lab id) (entry_leaves lab id) c.rows.result.now late entered three.2 (known_still lab c.args.giver before late (ap persons_of put) known) in
    let below = subst (λ (signatures : List Signature). TriesToAddSignatures lab id signatures entered tried at) c.as_slice.ensures (it rows.1) in
    let turns = subst (λ (list : List Entry). InTurn (AddsEntry lab id) list late entered) c.rows.ensures rows.0 in
    inr (
      opener,
      found.0 known,
      inr (inr (
        entered,
        subst (λ (t : Tables). InTurn (AddsEntry lab next) version.rows t entered) put (subst (λ (i : ℤ). InTurn (AddsEntry lab i) version.rows late entered) is turns),
        subst (λ (i : ℤ). TriesToAddSignatures lab i version.signatures entered tried at) is below,
      )),
    ))
    c.from_residual-in_err-add_signatures.result c.from_residual-in_err-add_signatures.ensures.1

pub returns : goal.returns
returns g c =
    let three = g.W.Writable.state c.insert_version.new.tx in
    let four = g.W.Writable.state c.add_entries.new.tx in
    let five = g.W.Writable.state c.add_signatures.new.tx in
    and_three c.in_ok-opener.ensures c.in_ok-id.ensures c.in_ok-add_entries.ensures c.in_ok-add_signatures.ensures (λ found placed entered signed.
    version_added c.args.lab.id c.args.giver c.args.kept.id c.args.version.now c.in_ok-opener.opener.id c.in_ok-id.id.id _ _ _ _ _ found placed
    (subst (λ rows. Steps (InTurn (EachKnowing c.args.lab.id c.args.giver (AddsEntry c.args.lab.id c.in_ok-id.id.id)) rows) three four) c.rows.ensures entered)
    (subst (λ signatures. Steps (InTurn (EachKnowing c.args.lab.id c.args.giver (AddsSignature c.args.lab.id c.in_ok-id.id.id)) signatures) four five) c.as_slice.ensures signed))
