use Rattle.std.proofs.Common.{w64, map, ap, sym, subst, ◌∙◌}
use Rattle.std.proofs.lemmas.Int.{to_z-of_z}
use Rattle.lab_store_read.proofs.Queries.{if_then}
use Rattle.lab_move_tables.specs.Showing.{said_at}
use Rattle.lab_move_tables.proofs.Wheres.{where_both}
use Rattle.lab_move_read_people.specs.Kept.{found_of}
use Rattle.lab_move_read_people.proofs.Found.{found_as, found_err, store_after, store_ends}
use Rattle.lab_move_read.proofs.RecordsFound.{entries_shown_so}
use Rattle.lab_move_read.specs.Readable.{AreEntries}
use Rattle.lab_move_read.proofs.ReadableSaid.{entries_unsaid}
use Rattle.lab_move_read.proofs.entries.entries_at.Goals as goal

pub returns-in_err-rows : goal.returns-in_err-rows
returns-in_err-rows g c = store_ends (rw (to_z-of_z w64 c.args.version c.ranges.version) at c.in_err-rows.ensures) c.from_residual.result c.from_residual.ensures.1 (λ t wanted. wanted.taken)

pub returns-in_err-places : goal.returns-in_err-places
returns-in_err-places g c =
    store_after (rw (to_z-of_z w64 c.args.version c.ranges.version) at c.in_ok-rows.ensures) (rw (to_z-of_z w64 c.args.version c.ranges.version) at c.in_err-places.ensures)
    c.from_residual-in_err-places.result c.from_residual-in_err-places.ensures.1 (λ t file wanted rows. wanted.placed)

pub returns : goal.returns
returns g c =
    where_both (rw (to_z-of_z w64 c.args.version c.ranges.version) at c.in_ok-rows.ensures)
    (rw (to_z-of_z w64 c.args.version c.ranges.version) at c.in_ok-places.ensures) (λ t file rows places.
    let it = entries_shown_so file.0 t file.1.lifted c.args.lab c.args.version _ _ (ap (map (said_at 5)) c.deref.ensures.value ∙ rows) (c.deref-2.ensures.value ∙ places) in
    if_then (found_of c.entries_tried.result) (λ found is. found_as found is it.0 (λ made so. so ∙ it.1)) (rw (to_z-of_z w64 c.args.lab c.ranges.lab) at c.entries_tried.ensures.tried))
    (λ t file wanted rows places. found_err (subst AreEntries (sym c.deref.ensures.value) (entries_unsaid c.in_ok-rows.rows.items (subst AreEntries (sym rows) wanted.rows))) c.entries_tried.result c.entries_tried.ensures.fault)
