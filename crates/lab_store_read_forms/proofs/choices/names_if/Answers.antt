use Rattle.std.proofs.Common.{w64, rules, IsTrue}
use Rattle.std.proofs.lemmas.Int.{to_z-of_z}
use Rattle.lab_store_read.proofs.Causes.{cause_as}
use Rattle.lab_store_read_forms.proofs.choices.names_if.Goals as goal

pub returns-clause-cause : goal.returns-clause-cause
returns-clause-cause g c =
    let wanted : IsTrue c.args.wanted = search rules in
    cause_as (rw (to_z-of_z w64 c.args.field c.ranges.field) at c.names_at.ensures.cause) (λ has. has wanted)
