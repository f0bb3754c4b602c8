use Rattle.std.proofs.Common.{◌≡◌, ◌∷◌, length, sym, ap, ◌∙◌, arith, rules}
use Rattle.std.specs.Vec.Iter.{into_iter_items}
use Rattle.lab_store_read.proofs.Causes.{none_asked, one_asked, asked_fails, all_asked, passed_so}
use Rattle.lab_store_read.proofs.Loops.{none_left, all_put, put_fails}
use Rattle.lab_store_read_trail.specs.Readable.{HasDoer}
use Rattle.lab_store_read_trail.specs.Private.Trails.{told_by}
use Rattle.lab_store_read.proofs.PutOnce.{none_put_once, one_put_once, put_so}
use Rattle.lab_store_read_trail.proofs.trails.add_all_told.Goals as goal

pub loop-head-init : goal.loop-head-init
loop-head-init g c =
    let all : into_iter_items c.into_iter-head-iterator.result ≡ c.args.heads.items = search rules in
    record {
      put = none_put_once told_by c.args.made.now.items c.args.heads.items _ _ (g.D.Readable.state c.args.conn.now) all c.new-known.ensures.items;
      asked = none_asked HasDoer c.args.heads.items _ (g.D.Readable.state c.args.conn.now) all;
      counted = search rules;
    }

pub loop-head-preserved : goal.loop-head-preserved
loop-head-preserved g c =
    let steps : into_iter_items c.loop-head.head-iterator ≡ c.in-Some.head ∷ into_iter_items c.next.new.self = c.in-Some.ensures.steps.0 in
    record {
      put = one_put_once c.loop-head.invariant.put steps c.in_ok-add_told.ensures.reads;
      asked = one_asked c.loop-head.invariant.asked steps c.in_ok-add_told.ensures.cause.limit;
      counted =
          let was = c.loop-head.invariant.counted in
          let less = c.in-Some.ensures.steps.1 in
          let short = ap length steps in
          omega arith;
    }

pub returns-in_err-add_told-clause-reads : goal.returns-in_err-add_told-clause-reads
returns-in_err-add_told-clause-reads g c =
    put_fails (put_so c.loop-head.invariant.put) c.in_err-add_told.ensures.reads c.from_residual.result _ c.from_residual.ensures.1

pub returns-in_err-add_told-clause-cause : goal.returns-in_err-add_told-clause-cause
returns-in_err-add_told-clause-cause g c =
    let steps : into_iter_items c.loop-head.head-iterator ≡ c.in-Some.head ∷ into_iter_items c.next.new.self = c.in-Some.ensures.steps.0 in
    passed_so (asked_fails c.loop-head.invariant.asked (put_so c.loop-head.invariant.put) steps c.in_err-add_told.ensures.reads c.in_err-add_told.ensures.cause)
    c.from_residual.result c.from_residual.ensures.1

pub returns-clause-reads : goal.returns-clause-reads
returns-clause-reads g c = all_put (put_so c.loop-head.invariant.put) (none_left _ (sym c.loop-head.invariant.counted ∙ c.in-None.ensures.steps.0))

pub returns-clause-cause : goal.returns-clause-cause
returns-clause-cause g c = all_asked c.loop-head.invariant.asked
