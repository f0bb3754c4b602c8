-- Each version goes out behind those before it; a fault cuts it within one.
use Rattle.std.proofs.Common.{◌≡◌, ℕ, List, [], ◌∷◌, false, map, length, Option, refl, sym, ap, subst, ◌∙◌, arith, rules}
use Rattle.std.specs.Prelude.{is_some, option_map}
use Rattle.std.specs.Vec.Iter.{into_iter_items}
use Rattle.sqlite.specs.Effect.{Database}
use Rattle.lab_copy_rows.specs.declared.outs.CopyOut.{CopyOut}
use Rattle.lab_records_kept.specs.declared.records.Record.{Record}
use Rattle.lab_records_kept.specs.declared.records.Version.{Version}
use Rattle.lab_records_kept.specs.Digests.{digest_of}
use Rattle.lab_records_copy_out.specs.declared.faults.CopyOutFault.TheVariants.{Memory}
use Rattle.lab_store_tables.specs.Meaning.{Leaf}
use Rattle.lab_store_tables.specs.Rows.{Tables, tables_in}
use Rattle.lab_store_tables.specs.Ready.{tables_of}
use Rattle.lab_store_read.proofs.Readers.{passes_none, unchanged_none, passes_on, unchanged_then}
use Rattle.lab_store_read.proofs.Loops.{none_left}
use Rattle.lab_store_read_records.specs.declared.heads.VersionHead.{VersionHead}
use Rattle.lab_store_read_records.specs.Leaves.{leaf_by}
use Rattle.lab_store_read_copies.specs.Private.Causes.{HasPlacedVersions}
use Rattle.lab_store_read_copies.proofs.CauseLemmas.{none_blamed, version_next, versions_next, then_told}
use Rattle.lab_store_read_copies.proofs.GivesLemmas.{fault_given, never_blamed}
use Rattle.lab_store_read_copies.proofs.GoneLemmas.{HasGone, none_gone, version_more, version_cut, gone_front, all_gone, all_given}
use Rattle.lab_store_read_copies.proofs.records.give_each_version.Goals as goal

pub loop-head-init : goal.loop-head-init
loop-head-init g c =
    let old = g.D.Readable.state c.args.conn.now in
    let all : into_iter_items c.into_iter-head-iterator.result ≡ c.args.heads.items =
    search rules in
    record {
      passes = passes_none old;
      same = λ clean opened. unchanged_none old opened;
      gone = λ ready clean opened. none_gone c.args.lab.now c.args.cover.now _ _ _ _
          (ap (map (leaf_by (tables_of old))) all);
      limit = refl;
      readable = λ t has.
          subst (λ (list : List VersionHead). HasPlacedVersions t false list) (sym all) has;
      counted = search rules;
    }

-- all that is known of the versions so far, by the digest of the last of them
gone_behind : (lab : List ℕ) (cover : Record) (rest all : List Leaf) (old now : Option (List ℕ))
    (start out : CopyOut) (before digest : Option (List ℕ)) → digest ≡ before →
    HasGone lab cover before rest all old now start out →
    HasGone lab cover digest rest all old now start out
gone_behind lab cover rest all old now start out before digest is so =
    subst (λ (behind : Option (List ℕ)). HasGone lab cover behind rest all old now start out)
    (sym is) so

versions_behind : (t : Tables) (before digest : Option (List ℕ)) (heads : List VersionHead) →
    digest ≡ before → HasPlacedVersions t (is_some before) heads →
    HasPlacedVersions t (is_some digest) heads
versions_behind t before digest heads is has =
    subst (λ (behind : Option (List ℕ)). HasPlacedVersions t (is_some behind) heads) (sym is) has

pub loop-head-preserved : goal.loop-head-preserved
loop-head-preserved g c =
    let lab = c.args.lab.now in
    let cover = c.args.cover.now in
    let old = g.D.Readable.state c.args.conn.now in
    let at = c.loop-head in
    let so = at.invariant in
    let given = c.in_ok-version.ensures in
    let steps : into_iter_items at.head-iterator
    ≡ c.in-Some.head ∷ into_iter_items c.next.new.self = c.in-Some.ensures.steps.0 in
    record {
      passes = passes_on old (g.D.Readable.state at.conn)
          (g.D.Readable.state c.give_version_at.new.conn)
          so.passes given.gives.passes so.same;
      same = λ clean opened.
          unchanged_then old (g.D.Readable.state at.conn)
          (g.D.Readable.state c.give_version_at.new.conn)
          (so.same (given.gives.passes.clean clean) opened) (given.gives.same clean tt);
      gone = λ ready clean opened.
          let was = given.gives.passes.clean clean in
          let begun = so.passes.ready ready in
          version_more lab cover c.in_ok-digest.digest c.in-Some.head _ _
          c.args.heads.items (tables_of (g.D.Readable.state at.conn)) (tables_of old)
          (ap (λ (db : Database). tables_in db.trees) (so.same was opened).0.now_is) steps _ _ _ _
          _ _ (gone_behind lab cover _ _ _ _ _ _ _ _ c.in_ok-digest.ensures (so.gone ready was opened))
          (digest_of lab cover c.in_ok-version.version) (given.gives.text begun clean tt tt)
          (given.gives.counts begun clean tt tt)
          (ap (digest_of lab cover) (given.version begun clean));
      limit = given.gives.cause.limit ∙ so.limit;
      readable = λ t has.
          versions_next t (is_some (option_map (digest_of lab cover) at.before)) _
          (into_iter_items c.next.new.self) c.in-Some.head steps (so.readable t has);
      counted =
          let was = so.counted in
          let less = c.in-Some.ensures.steps.1 in
          let short = ap length steps in
          omega arith;
    }

-- there was no memory for the digest of the version before
pub returns-in_err-digest : goal.returns-in_err-digest
returns-in_err-digest g c =
    let so = c.loop-head.invariant in
    fault_given {A = Version} {Given = λ t. Unit {0}} {fault = Memory} c.from_residual.result
    c.from_residual.ensures.1 (record {
      passes = so.passes;
      same = λ clean opened. tt;
      text = λ ready clean opened given.
          gone_front c.args.lab.now c.args.cover.now _ _ _ _ _ _ _ (so.gone ready clean opened);
      counts = λ ready clean opened given. tt;
      fault = tt;
      cause = never_blamed so.limit Memory tt;
    })

-- the version didn't go out whole
pub returns-in_err-version : goal.returns-in_err-version
returns-in_err-version g c =
    let lab = c.args.lab.now in
    let cover = c.args.cover.now in
    let old = g.D.Readable.state c.args.conn.now in
    let at = c.loop-head in
    let so = at.invariant in
    let mid = g.D.Readable.state at.conn in
    let new = g.D.Readable.state c.give_version_at.new.conn in
    let gave = c.in_err-version.ensures.gives in
    fault_given {A = Version} {Given = λ t. Unit {0}} c.from_residual-in_err-version.result
    c.from_residual-in_err-version.ensures.1 (record {
      passes = passes_on old mid new so.passes gave.passes so.same;
      same = λ clean opened. tt;
      text = λ ready clean opened given.
          let was = gave.passes.clean clean in
          version_cut lab cover c.in_ok-digest.digest c.in-Some.head _ _ c.args.heads.items
          (tables_of mid) (tables_of old)
          (ap (λ (db : Database). tables_in db.trees) (so.same was opened).0.now_is)
          c.in-Some.ensures.steps.0 _ _ _ _ _ c.args.out.now
          (gone_behind lab cover _ _ _ _ _ _ _ _ c.in_ok-digest.ensures (so.gone ready was opened))
          (gave.text (so.passes.ready ready) clean tt tt);
      counts = λ ready clean opened given. tt;
      fault = gave.fault;
      cause = then_told {Then = λ t. HasPlacedVersions t false c.args.heads.items}
          old mid new so.passes
          so.same so.limit gave.passes gave.cause
          (λ ready clean has. version_next (tables_of old) (is_some c.in_ok-digest.digest) _
          (into_iter_items c.next.new.self) c.in-Some.head c.in-Some.ensures.steps.0
          (versions_behind (tables_of old) _ _ _ c.in_ok-digest.ensures
          (so.readable (tables_of old) has)));
    })

pub returns : goal.returns
returns g c =
    let old = g.D.Readable.state c.args.conn.now in
    let so = c.loop-head.invariant in
    let none : into_iter_items c.loop-head.head-iterator ≡ [] =
    none_left _ (sym so.counted ∙ c.in-None.ensures.steps.0) in
    record {
      passes = so.passes;
      same = so.same;
      text = λ ready clean opened given.
          all_gone c.args.lab.now c.args.cover.now _ _ _ _ _ _ _
          (ap (map (leaf_by (tables_of old))) none) (so.gone ready clean opened);
      counts = λ ready clean opened given.
          all_given c.args.lab.now c.args.cover.now _ _ _ _ _ _ _
          (ap (map (leaf_by (tables_of old))) none) (so.gone ready clean opened);
      fault = tt;
      cause = none_blamed so.limit;
    }
