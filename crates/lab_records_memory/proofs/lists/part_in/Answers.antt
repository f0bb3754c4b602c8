-- The part is that of the laboratory in the place where the search ended.
use Rattle.std.proofs.Common.{◌≡◌, Option, Some, None, sym, ◌∙◌, ap}
use Rattle.std.specs.Prelude.{is_some, position}
use Rattle.lab_records_kept.specs.declared.labs.Lab.{Lab}
use Rattle.lab_records_kept.specs.declared.needs.Slice.{Slice}
use Rattle.lab_records_kept.specs.Parts.{part, part_of}
use Rattle.lab_records_memory.specs.Lists.{has_code}
use Rattle.lab_records_memory.proofs.Listing.{stands_at, not_placed, on_any}
use Rattle.lab_records_memory.proofs.lists.part_in.Goals as goal

pub returns-in_default-clause-part : goal.returns-in_default-clause-part
returns-in_default-clause-part c =
    let ended : position (has_code c.args.code.now) c.args.labs.now.items ≡ None = cc in
    ap (λ (found : Option Lab). part_of c.args.need.now found)
    (sym (not_placed c.args.labs.now.items c.args.code.now ended))

pub returns-clause-part : goal.returns-clause-part
returns-clause-part c =
    let labs = c.args.labs.now.items in
    let code = c.args.code.now in
    let need = c.args.need.now in
    let place = c.in-Some.place in
    let lab = c.index_mut-held.result.now in
    let ended : position (has_code code) labs ≡ Some place = cc in
    let stood = stands_at labs code place lab ended c.index_mut-held.ensures.value in
    let made : c.in_ok-slice.slice ≡ part need lab =
    c.in_ok-slice.ensures.part in
    ap (λ (slice : Slice). Some slice) made
    ∙ ap (λ (found : Option Lab). part_of need found) (sym stood.found)

pub returns-in_err-slice-clause-memory : goal.returns-in_err-slice-clause-memory
returns-in_err-slice-clause-memory c =
    let labs = c.args.labs.now.items in
    let code = c.args.code.now in
    let place = c.in-Some.place in
    let ended : position (has_code code) labs ≡ Some place = cc in
    let stood = stands_at labs code place c.index_mut-held.result.now ended c.index_mut-held.ensures.value in
    on_any c.from_residual.result (ap (λ (found : Option Lab). is_some found) stood.found)
