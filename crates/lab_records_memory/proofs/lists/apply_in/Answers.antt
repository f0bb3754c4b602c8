-- A list is changed in the place where the search ended.
use Rattle.std.proofs.Common.{◌≡◌, Option, Some, None, sym, ap, subst}
use Rattle.std.specs.Prelude.{is_some, position, slice_set}
use Rattle.lab_records_kept.specs.declared.labs.Lab.{Lab}
use Rattle.lab_records_kept.specs.Changes.{changed}
use Rattle.lab_records_keeper.specs.Worlds.{Changes}
use Rattle.lab_records_memory.specs.Lists.{has_code, lab_of, ChangesInPlace}
use Rattle.lab_records_memory.proofs.Listing.{stands_at, changed_meaning, unchanged_meaning, changed_in_place, not_placed, on_any}
use Rattle.lab_records_memory.proofs.lists.apply_in.Goals as goal

pub returns-in_default-clause-changed : goal.returns-in_default-clause-changed
returns-in_default-clause-changed c =
    let ended : position (has_code c.args.code.now) c.args.labs.now.items ≡ None = cc in
    unchanged_meaning c.args.labs.now.items c.args.code.now c.args.changes
    (not_placed c.args.labs.now.items c.args.code.now ended)

pub returns-clause-changed : goal.returns-clause-changed
returns-clause-changed c =
    let labs = c.args.labs.now.items in
    let code = c.args.code.now in
    let place = c.in-Some.place in
    let lab = c.index_mut-held.result.now in
    let ended : position (has_code code) labs ≡ Some place = cc in
    let stood = stands_at labs code place lab ended c.index_mut-held.ensures.value in
    let made : c.apply.new.self ≡ changed lab c.args.changes =
    c.in_ok-apply.ensures.ok in
    subst (λ (one : Lab). Changes code c.args.changes (lab_of labs)
    (lab_of (slice_set labs place one))) (sym made)
    (changed_meaning labs code place lab c.args.changes stood c.index_mut-held.ensures.value)

pub returns-clause-place : goal.returns-clause-place
returns-clause-place c =
    let labs = c.args.labs.now.items in
    let code = c.args.code.now in
    let place = c.in-Some.place in
    let lab = c.index_mut-held.result.now in
    let ended : position (has_code code) labs ≡ Some place = cc in
    let stood = stands_at labs code place lab ended c.index_mut-held.ensures.value in
    let made : c.apply.new.self ≡ changed lab c.args.changes =
    c.in_ok-apply.ensures.ok in
    subst (λ (one : Lab). ChangesInPlace labs (slice_set labs place one) code c.args.changes)
    (sym made) (changed_in_place labs code place lab c.args.changes stood)

pub returns-in_err-apply-clause-memory : goal.returns-in_err-apply-clause-memory
returns-in_err-apply-clause-memory c =
    let labs = c.args.labs.now.items in
    let code = c.args.code.now in
    let place = c.in-Some.place in
    let ended : position (has_code code) labs ≡ Some place = cc in
    let stood = stands_at labs code place c.index_mut-held.result.now ended c.index_mut-held.ensures.value in
    on_any c.from_residual.result (ap (λ (found : Option Lab). is_some found) stood.found)
