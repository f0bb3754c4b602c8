use Rattle.std.proofs.Common.{List, None, map, sym, subst}
use Rattle.lab_records_kept.specs.declared.records.Version.{Version}
use Rattle.lab_records_kept.specs.Bound.{IsChain}
use Rattle.lab_store_read_records.specs.Leaves.{leaf_of}
use Rattle.lab_store_read_forms.specs.Wholes.{cover_of}
use Rattle.lab_store_read_forms.proofs.Chains.{chained_is_chain}
use Rattle.lab_move_read.proofs.filed.record_with.Goals as goal

pub returns-clause-chained : goal.returns-clause-chained
returns-clause-chained c =
    let code = c.args.code.now in
    let cover = cover_of c.args.head c.args.form in
    let made = c.in_ok-cover.field-0 in
    subst (λ (versions : List Version). IsChain code (record cover { versions = made }) None versions) (sym c.in_ok-cover.ensures.value)
    (chained_is_chain code cover made None (map leaf_of c.args.leaves.items))
