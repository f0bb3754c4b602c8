use Rattle.std.proofs.Common.{◌+◌, ◌∙◌, sym, ap, refl, length, option_map, arith}
use Rattle.std.proofs.lemmas.Option.{slice_get_read}
use Rattle.lab_seal_versions.specs.declared.origins.Amendment.{Amendment}
use Rattle.lab_records_kept.proofs.FoundLemmas.{chain_names}
use Rattle.lab_move_tables.proofs.bound.named_digest.Goals as goal

-- the version behind it is the next one of the chain
pub returns : goal.returns
returns c = λ lab chained.
    let versions = c.args.kept.now.versions in
    let behind = c.args.place + 1 in
    let next = c.in_ok-next.next.now in
    let there = rw c.as_slice.ensures at c.in_ok-next.ensures.lookup in
    let here = slice_get_read versions (length versions) behind next refl there.3.0 there.1 in
    let named = ap (option_map (λ (amendment : Amendment). amendment.previous))
    (sym (c.in_ok-amendment.ensures.value ∙ c.amendment.ensures.value)) in
    chain_names lab c.args.kept.now versions c.args.place behind next
    c.in_ok-amendment.amendment.now.previous chained
    (omega arith) here named
