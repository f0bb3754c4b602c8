use Rattle.std.proofs.Common.{take, sym, refl, ◌∙◌, arith, rules, true, false}
use Rattle.std.specs.Prelude.{set}
use Rattle.std.proofs.KnownBytes.{Consumes-nil}
use Rattle.std.proofs.lemmas.Grind.{common_steps}
use Rattle.lab_wire_heads.proofs.StageLemmas.{stage_none, stage_next, tells_of, before_set, ends_by}
use Rattle.lab_wire_heads.proofs.StopLemmas.{own_here, own_without, known_here, known_end, known_full}
use Rattle.lab_wire_heads.proofs.GivenLemmas.{one_more, no_more}
use Rattle.lab_wire_heads.proofs.head_bytes.read_head.Goals as goal

pub loop-count-init : goal.loop-count-init
loop-count-init g c = record {
  within = omega arith;
  size = c.requires;
  taken = Consumes-nil _;
  stage = sym stage_none;
  before = refl;
  asks = omega arith;
}

-- the reader has ended

pub returns-in_default-clause-taken : goal.returns-in_default-clause-taken
returns-in_default-clause-taken g c =
    let took = rw c.in_default.is at c.in_ok-byte.ensures.taken in
    no_more _ _ _ (take c.loop-count.count c.loop-count.room) c.loop-count.invariant.taken took.0

pub returns-in_default-clause-stops : goal.returns-in_default-clause-stops
returns-in_default-clause-stops g c =
    let took = rw c.in_default.is at c.in_ok-byte.ensures.taken in
    let now = c.loop-count.invariant in
    known_end _ _ c.loop-count.room c.loop-count.count
    (no_more _ _ _ (take c.loop-count.count c.loop-count.room) now.taken took.0) took.1 now.within now.size
    (tells_of c.loop-count.stage c.loop-count.room c.loop-count.count false now.within now.size now.stage now.before)

pub returns-in_default-clause-own : goal.returns-in_default-clause-own
returns-in_default-clause-own g c =
    let now = c.loop-count.invariant in
    own_without c.loop-count.room c.loop-count.count now.within now.size
    (tells_of c.loop-count.stage c.loop-count.room c.loop-count.count false now.within now.size now.stage now.before)

-- a byte more has come

pub loop-count-preserved : goal.loop-count-preserved
loop-count-preserved g c =
    let now = c.loop-count.invariant in
    let took = rw c.in-Some.is at c.in_ok-byte.ensures.taken in
    let next = stage_next c.loop-count.stage c.loop-count.room c.loop-count.count c.in-Some.byte c.loop-count-test.true now.stage in
    record {
      within = grind (arith, common_steps);
      size = grind (arith, common_steps);
      taken = one_more _ _ _ c.loop-count.room c.loop-count.count c.in-Some.byte c.loop-count-test.true now.taken took;
      stage = c.after-stage.ensures ∙ next;
      before = sym c.has_ended.ensures ∙ c.if-has_ended.false;
      asks = search rules;
    }

-- and the head has ended with it

pub returns-then-has_ended-clause-stops : goal.returns-then-has_ended-clause-stops
returns-then-has_ended-clause-stops g c =
    let now = c.loop-count.invariant in
    let took = rw c.in-Some.is at c.in_ok-byte.ensures.taken in
    let room = c.loop-count.room in
    let count = c.loop-count.count in
    let byte = c.in-Some.byte in
    let within = c.loop-count-test.true in
    known_here _ _ (set room count byte) count (one_more _ _ _ room count byte within now.taken took)
    (grind (arith, common_steps))
    (ends_by c.loop-count.stage c.after-stage.result room count byte true within now.size now.stage c.after-stage.ensures
    (sym c.has_ended.ensures ∙ c.if-has_ended.true))
    (before_set room count byte (tells_of c.loop-count.stage room count false now.within now.size now.stage now.before))

pub returns-then-has_ended-clause-own : goal.returns-then-has_ended-clause-own
returns-then-has_ended-clause-own g c =
    let now = c.loop-count.invariant in
    let room = c.loop-count.room in
    let count = c.loop-count.count in
    let byte = c.in-Some.byte in
    let within = c.loop-count-test.true in
    own_here (set room count byte) count (grind (arith, common_steps))
    (ends_by c.loop-count.stage c.after-stage.result room count byte true within now.size now.stage c.after-stage.ensures
    (sym c.has_ended.ensures ∙ c.if-has_ended.true))
    (before_set room count byte (tells_of c.loop-count.stage room count false now.within now.size now.stage now.before))

-- the room is full

pub returns-clause-stops : goal.returns-clause-stops
returns-clause-stops g c =
    let now = c.loop-count.invariant in
    known_full _ _ c.loop-count.room c.loop-count.count now.taken (omega arith) now.size
    (tells_of c.loop-count.stage c.loop-count.room c.loop-count.count false now.within now.size now.stage now.before)

pub returns-clause-own : goal.returns-clause-own
returns-clause-own g c =
    let now = c.loop-count.invariant in
    own_without c.loop-count.room c.loop-count.count now.within now.size
    (tells_of c.loop-count.stage c.loop-count.room c.loop-count.count false now.within now.size now.stage now.before)
