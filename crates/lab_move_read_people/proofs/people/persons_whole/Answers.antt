use Rattle.std.proofs.Common.{◌≡◌, ◌∷◌, length, sym, ap, ◌∙◌, arith, rules, w64}
use Rattle.std.proofs.lemmas.Int.{to_z-of_z}
use Rattle.std.specs.Vec.Iter.{into_iter_items}
use Rattle.lab_store_read_people.specs.Private.Heads.{person_by}
use Rattle.lab_store_read.proofs.Loops.{none_left}
use Rattle.lab_move_read_people.proofs.KeptLoops.{none_kept, one_kept, one_ends, push_ends, all_kept}
use Rattle.lab_move_read_people.proofs.people.persons_whole.Goals as goal

pub loop-head-init : goal.loop-head-init
loop-head-init g c =
    let all : into_iter_items c.into_iter-head-iterator.result ≡ c.args.heads.items = search rules in
    record {
      kept = none_kept _ _ person_by c.args.heads.items _ _ (g.D.Readable.state c.args.conn.now) c.new-made.ensures all;
      counted = search rules;
    }

pub loop-head-preserved : goal.loop-head-preserved
loop-head-preserved g c =
    let steps : into_iter_items c.loop-head.head-iterator ≡ c.in-Some.head ∷ into_iter_items c.next.new.self = c.in-Some.ensures.steps.0 in
    record {
      kept = one_kept c.loop-head.invariant.kept steps c.in_ok-person.ensures c.in_ok-push.ensures.ok (λ t is. is);
      counted =
          let was = c.loop-head.invariant.counted in
          let less = c.in-Some.ensures.steps.1 in
          let short = ap length steps in
          omega arith;
    }

pub returns-in_err-person : goal.returns-in_err-person
returns-in_err-person g c =
    one_ends (rw (to_z-of_z w64 c.args.lab c.ranges.lab) at c.loop-head.invariant.kept) c.in-Some.ensures.steps.0 c.in_err-person.field-0.0 (rw (to_z-of_z w64 c.args.lab c.ranges.lab) at c.in_err-person.ensures)
    c.from_residual.result c.from_residual.ensures.1

pub returns-in_err-push : goal.returns-in_err-push
returns-in_err-push g c = push_ends c.loop-head.invariant.kept c.in_ok-person.ensures c.from_residual-in_err-push.result c.from_residual-in_err-push.ensures.1

pub returns : goal.returns
returns g c =
    all_kept (rw (to_z-of_z w64 c.args.lab c.ranges.lab) at c.loop-head.invariant.kept) (none_left _ (sym c.loop-head.invariant.counted ∙ c.in-None.ensures.steps.0)) (λ t is. is)
