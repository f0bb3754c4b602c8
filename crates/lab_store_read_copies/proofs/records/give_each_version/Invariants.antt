-- The versions so far went out and were counted, and the next one stands behind the last of them;
-- nothing has changed. Those that are left are readable where all are.
use Rattle.std.proofs.Common.{◌≡◌, false, map, length, IsTrue}
use Rattle.std.specs.Prelude.{is_some, option_map}
use Rattle.std.specs.Vec.Iter.{into_iter_items, into_iter_len}
use Rattle.sqlite.specs.State.{HasCleanDisk, IsUnchanged}
use Rattle.lab_records_kept.specs.Digests.{digest_of}
use Rattle.lab_store_tables.specs.Rows.{Tables}
use Rattle.lab_store_tables.specs.Ready.{IsReady, PassesBy, tables_of}
use Rattle.lab_store_read_records.specs.Leaves.{leaf_by}
use Rattle.lab_store_read_copies.specs.Private.Causes.{HasPlacedVersions}
use Rattle.lab_store_read_copies.proofs.GoneLemmas.{HasGone}
use Rattle.lab_store_read_copies.proofs.records.give_each_version.Given as goal

abbrev pub invariant-loop-head : goal.invariant-loop-head
invariant-loop-head g l =
    let old = g.D.Readable.state l.fn.conn in
    let now = g.D.Readable.state l.conn in
    let behind = option_map (digest_of l.lab l.cover) l.before in
    record {
      passes : PassesBy old now;
      same : HasCleanDisk now → IsTrue old.is_open → IsUnchanged old now;
      gone : IsReady old → HasCleanDisk now → IsTrue old.is_open →
          HasGone l.lab l.cover behind
          (map (leaf_by (tables_of old)) (into_iter_items l.head-iterator))
          (map (leaf_by (tables_of old)) l.fn.heads.items) (g.W.Write.contents l.fn.writer)
          (g.W.Write.contents l.writer) l.fn.out l.out;
      limit : now.step_limit ≡ old.step_limit;
      readable : (t : Tables) → HasPlacedVersions t false l.fn.heads.items →
          HasPlacedVersions t (is_some behind) (into_iter_items l.head-iterator);
      counted : into_iter_len l.head-iterator ≡ length (into_iter_items l.head-iterator);
    }
