use Rattle.std.proofs.Common.{◌≡◌, ◌+◌, Bool, true, false, cond, refl, ◌∙◌}
use Rattle.lab_store_tables.specs.Columns.{roles_sum}
use Rattle.lab_store_write.proofs.passwords.roles_sum.Goals as goal

each : (a b c d e : Bool) → cond a 1 0 + cond b 2 0 + cond c 4 0 + cond d 8 0 + cond e 16 0 ≡ roles_sum (record { analyst = a; reviewer = b; manager = c; administrator = d; inspector = e })
each false false false false false = refl
each true false false false false = refl
each false true false false false = refl
each true true false false false = refl
each false false true false false = refl
each true false true false false = refl
each false true true false false = refl
each true true true false false = refl
each false false false true false = refl
each true false false true false = refl
each false true false true false = refl
each true true false true false = refl
each false false true true false = refl
each true false true true false = refl
each false true true true false = refl
each true true true true false = refl
each false false false false true = refl
each true false false false true = refl
each false true false false true = refl
each true true false false true = refl
each false false true false true = refl
each true false true false true = refl
each false true true false true = refl
each true true true false true = refl
each false false false true true = refl
each true false false true true = refl
each false true false true true = refl
each true true false true true = refl
each false false true true true = refl
each true false true true true = refl
each false true true true true = refl
each true true true true true = refl

pub returns : goal.returns
returns c =
    let r = c.args.roles in
    (λ i. c.weight-analyst.ensures i + c.weight-reviewer.ensures i + c.weight-manager.ensures i + c.weight-administrator.ensures i + c.weight-inspector.ensures i)
    ∙ each r.analyst r.reviewer r.manager r.administrator r.inspector
