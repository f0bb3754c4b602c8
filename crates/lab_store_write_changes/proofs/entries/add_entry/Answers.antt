use Rattle.lab_store_write.specs.Givers.{Knows}
use Rattle.std.proofs.Common.{inl, inr, pos, ℕ, ◌+◌, filter, length, ap, ◌∙◌}
use Rattle.lab_store_tables.specs.Rows.{Tables}
use Rattle.lab_store_write_changes.specs.Statements.{asking_entries, adding_entry}
use Rattle.lab_store_write.specs.Tried.{Only, TriedFrom}
use Rattle.lab_store_write_changes.specs.Private.EntriesAdded.{entry_at}
use Rattle.lab_store_write_changes.specs.Tried.{TriesToAddEntry}
use Rattle.lab_store_write_changes.specs.Private.VersionsShown.{is_entry_of}
use Rattle.lab_store_write.proofs.Trying.{found_first}
use Rattle.lab_store_write.proofs.Writers.{and_two, fails_so_by, then_fails_by, then_third_fails_by}
use Rattle.lab_store_write_changes.proofs.Added.{entry_added}
use Rattle.lab_store_write_changes.proofs.entries.add_entry.Goals as goal

pub returns-in_err-person : goal.returns-in_err-person
returns-in_err-person g c =
    fails_so_by c.in_err-person.ensures {more = TriedFrom (Knows c.args.lab.id c.args.giver) (TriesToAddEntry c.args.lab.id c.args.version.id c.args.entry.now)} (λ before tried at it known. inl it)
    c.from_residual.result c.from_residual.ensures.1

pub returns-in_err-place : goal.returns-in_err-place
returns-in_err-place g c =
    let own = Only (asking_entries c.args.version.id) in
    then_fails_by c.in_ok-person.ensures {tries = own} {more = TriedFrom (Knows c.args.lab.id c.args.giver) (TriesToAddEntry c.args.lab.id c.args.version.id c.args.entry.now)} c.in_err-place.ensures.counts
    (λ before mid tried at found it known. inr (inl (found_first own found.1 it)))
    c.from_residual-in_err-place.result c.from_residual-in_err-place.ensures.1

pub returns-in_err-insert_entry : goal.returns-in_err-insert_entry
returns-in_err-insert_entry g c =
    let version = c.args.version.id in
    let person = c.in_ok-person.person.id in
    let one = c.args.entry.now in
    let sent = λ (place : ℕ). adding_entry (entry_at version (pos 0) place person one) in
    then_third_fails_by c.in_ok-person.ensures c.in_ok-place.ensures.counts {third = Only (sent c.in_ok-place.place)} {more = TriedFrom (Knows c.args.lab.id c.args.giver) (TriesToAddEntry c.args.lab.id c.args.version.id c.args.entry.now)} c.in_err-insert_entry.ensures
    (λ before mid late tried at found counted it known. inr (inr (
      person,
      found.0 known,
      (it.0 ∙ ap sent (counted.0 ∙ ap (λ (t : Tables). length (filter (is_entry_of version) t.entries) + 1) found.1), it.1 ∙ counted.1 ∙ found.1),
    )))
    c.from_residual-in_err-insert_entry.result c.from_residual-in_err-insert_entry.ensures.1

pub returns : goal.returns
returns g c =
    and_two c.in_ok-person.ensures c.in_ok-place.ensures.counts c.in_ok-insert_entry.ensures
    (entry_added c.args.lab.id (Knows c.args.lab.id c.args.giver) c.args.version.id c.args.entry.now c.in_ok-person.person.id c.in_ok-place.place _ _ _ _)
