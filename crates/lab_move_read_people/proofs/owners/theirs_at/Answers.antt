use Rattle.std.proofs.Common.{w64, slice_get, subst, sym, ◌∙◌}
use Rattle.std.proofs.lemmas.Int.{to_z-of_z}
use Rattle.lab_store_read.proofs.Queries.{if_then}
use Rattle.lab_move_tables.proofs.Wheres.{where_and}
use Rattle.lab_move_read_people.specs.Kept.{found_of}
use Rattle.lab_move_read_people.specs.Private.Owners.{IsFirstOwner}
use Rattle.lab_move_read_people.specs.Readable.{HasFirstOwner}
use Rattle.lab_move_read_people.proofs.Found.{found_err, store_ends}
use Rattle.lab_move_read_people.proofs.PeopleFound.{owner_found}
use Rattle.lab_move_read_people.proofs.owners.theirs_at.Goals as goal

pub returns-in_err-rows : goal.returns-in_err-rows
returns-in_err-rows g c = store_ends (rw (to_z-of_z w64 c.args.id c.ranges.id) at c.in_err-rows.ensures) c.from_residual.result c.from_residual.ensures.1 (λ t wanted. wanted.taken)

pub returns : goal.returns
returns g c =
    where_and (rw (to_z-of_z w64 c.args.id c.ranges.id) at c.in_ok-rows.ensures) (λ t file rows.
    if_then (found_of c.first_owner.result) (λ found is. owner_found t c.args.lab c.args.id found (subst (λ l. IsFirstOwner c.args.lab (slice_get l 0) found) (c.deref.ensures.value ∙ rows) is))
    (rw (to_z-of_z w64 c.args.lab c.ranges.lab) at c.first_owner.ensures.found))
    (λ t file wanted rows. found_err (subst HasFirstOwner (sym (c.deref.ensures.value ∙ rows)) wanted.there) c.first_owner.result c.first_owner.ensures.fault)
