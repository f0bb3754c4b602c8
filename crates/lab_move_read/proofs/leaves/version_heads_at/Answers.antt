use Rattle.std.proofs.Common.{w64, map, ap, ◌∙◌, sym, subst}
use Rattle.std.proofs.lemmas.Int.{to_z-of_z}
use Rattle.lab_move_tables.specs.Showing.{said_at}
use Rattle.lab_move_read_people.proofs.Found.{rows_tried, store_ends}
use Rattle.lab_move_read.proofs.RecordsFound.{versions_shown_so}
use Rattle.lab_move_read.specs.Readable.{AreVersions}
use Rattle.lab_move_read.proofs.ReadableSaid.{versions_unsaid}
use Rattle.lab_move_read.proofs.leaves.version_heads_at.Goals as goal

pub returns-in_err-rows : goal.returns-in_err-rows
returns-in_err-rows g c = store_ends (rw (to_z-of_z w64 c.args.kept c.ranges.kept) at c.in_err-rows.ensures) c.from_residual.result c.from_residual.ensures.1 (λ t wanted. wanted.0)

pub returns : goal.returns
returns g c =
    rows_tried (rw (to_z-of_z w64 c.args.kept c.ranges.kept) at c.in_ok-rows.ensures) _ c.versions_tried.result c.versions_tried.ensures.tried c.versions_tried.ensures.fault
    (λ t file rows. let it = versions_shown_so c.args.older t file.lifted c.args.kept c.args.count _ (ap (map (said_at 4)) c.deref.ensures.value ∙ rows) in (it.0, λ made is. is ∙ it.1))
    (λ t wanted rows. subst AreVersions (sym c.deref.ensures.value) (versions_unsaid c.in_ok-rows.rows.items (subst AreVersions (sym rows) wanted.1)))
