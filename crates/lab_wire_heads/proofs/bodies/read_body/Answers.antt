use Rattle.std.proofs.Common.{arith, ◌+◌, ◌≡◌, length, take, refl, subst}
use Rattle.std.proofs.lemmas.Grind.{common_steps}
use Rattle.lab_wire_heads.specs.Private.Reading.{CameBehind}
use Rattle.lab_wire_heads.proofs.GivenLemmas.{short_body, whole_body}
use Rattle.lab_wire_heads.proofs.ReceptionLemmas.{request_behind_head}
use Rattle.lab_wire_heads.proofs.bodies.read_body.Goals as goal

pub returns-then-branch-whole-clause-fault : goal.returns-then-branch-whole-clause-fault
returns-then-branch-whole-clause-fault g c =
    let head = c.args.head.now in
    let now = take c.in_ok-fill.field-0 c.fill.new.bytes in
    let start : take (length head) c.deref_mut.result.now ≡ head = grind (arith, common_steps) in (
      refl,
      short_body (g.R.ByteSource.remaining c.args.reader.now) (g.R.ByteSource.remaining c.fill.new.reader)
          head now c.args.kept.body.length
          (grind (arith, common_steps))
          (subst (λ t. CameBehind t now (g.R.ByteSource.remaining c.args.reader.now) (g.R.ByteSource.remaining c.fill.new.reader)) start c.in_ok-fill.ensures.taken)
          (c.in_ok-fill.ensures.end (grind (arith, common_steps))),
    )

pub new-requires : goal.new-requires
new-requires g c =
    let head = c.args.head.now in
    let old = g.R.ByteSource.remaining c.args.reader.now in
    let new = g.R.ByteSource.remaining c.fill.new.reader in
    let start : take (length head) c.deref_mut.result.now ≡ head = grind (arith, common_steps) in
    let all : take c.in_ok-fill.field-0 c.fill.new.bytes ≡ c.from_vec.result = grind (arith, common_steps) in
    let size : length c.from_vec.result ≡ length head + c.args.kept.body.length = grind (arith, common_steps) in
    let came : CameBehind head c.from_vec.result old new =
    subst (λ t. CameBehind t c.from_vec.result old new) start
    (subst (λ t. CameBehind (take (length head) c.deref_mut.result.now) t old new) all c.in_ok-fill.ensures.taken) in
    request_behind_head head c.from_vec.result old new c.args.kept c.requires.kept c.requires.own
    (whole_body old new head c.from_vec.result c.args.kept.body.length size came)
