use Rattle.std.proofs.Common.{◌≡◌, ◌∷◌, ◌++◌, length, map, sym, ap, subst, ◌∙◌, arith}
use Rattle.std.specs.Vec.Iter.{into_iter_items}
use Rattle.lab_records_kept.specs.declared.records.Version.{Version}
use Rattle.std.specs.Prelude.{List, is_some}
use Rattle.lab_store_tables.specs.Meaning.{chained}
use Rattle.lab_store_read_records.specs.declared.leaves.VersionLeaf.{VersionLeaf}
use Rattle.lab_store_read_records.specs.Leaves.{leaf_of}
use Rattle.lab_store_read_records.specs.Private.Chains.{before_next}
use Rattle.lab_store_read_records.specs.Readable.{ArePlaced}
use Rattle.lab_store_read_records.proofs.ChainTurns.{chained_turn, placed_turn}
use Rattle.lab_store_read_records.proofs.chains.add_versions.Goals as goal

pub loop-leaf-preserved : goal.loop-leaf-preserved
loop-leaf-preserved c =
    let lab = c.args.lab.now in
    let cover = c.args.cover.now in
    let at = c.loop-leaf in
    let leaf = c.in-Some.leaf in
    let rest = into_iter_items c.next.new.self in
    let steps : into_iter_items at.leaf-iterator ≡ leaf ∷ rest = c.in-Some.ensures.steps.0 in (
      ap (λ (m : List Version). m ++ chained lab cover (before_next lab cover m) (map leaf_of rest)) c.in_ok-add_version.ensures.value
          ∙ chained_turn lab cover at.made (leaf_of leaf) (map leaf_of rest)
          ∙ ap (λ (l : List VersionLeaf). at.made ++ chained lab cover (before_next lab cover at.made) (map leaf_of l)) (sym steps) ∙ at.invariant.0,
      let was = at.invariant.1 in
          let gone = c.in-Some.ensures.steps.1 in
          let short = ap length steps in
          omega arith,
      λ all. placed_turn lab cover at.made c.add_version.new.made (leaf_of leaf) (map leaf_of rest) c.in_ok-add_version.ensures.value
          (subst (λ (l : List VersionLeaf). ArePlaced (is_some (before_next lab cover at.made)) (map leaf_of l)) steps (at.invariant.2 all)),
    )
