use Rattle.std.proofs.Common.{◌≡◌, ◌++◌, map, length}
use Rattle.std.specs.Prelude.{is_some}
use Rattle.std.specs.Vec.Iter.{into_iter_items, into_iter_len}
use Rattle.lab_store_tables.specs.Meaning.{chained}
use Rattle.lab_store_read_records.specs.Leaves.{leaf_of}
use Rattle.lab_store_read_records.specs.Private.Chains.{before_next}
use Rattle.lab_store_read_records.specs.Readable.{ArePlaced}
use Rattle.lab_store_read_records.proofs.chains.add_versions.Given as goal

-- the versions so far, and those to come, are all, and stand where they belong if all do
abbrev pub invariant-loop-leaf : goal.invariant-loop-leaf
invariant-loop-leaf l =
    (l.made ++ chained l.lab l.cover (before_next l.lab l.cover l.made) (map leaf_of (into_iter_items l.leaf-iterator))
    ≡ l.initial.made ++ chained l.lab l.cover (before_next l.lab l.cover l.initial.made) (map leaf_of (into_iter_items l.initial.leaf-iterator)))
    × (into_iter_len l.leaf-iterator ≡ length (into_iter_items l.leaf-iterator))
    × (ArePlaced (is_some (before_next l.lab l.cover l.initial.made)) (map leaf_of (into_iter_items l.initial.leaf-iterator))
    → ArePlaced (is_some (before_next l.lab l.cover l.made)) (map leaf_of (into_iter_items l.leaf-iterator)))
