use Rattle.std.proofs.Common.{sym, ap, ◌∙◌}
use Rattle.std.specs.Prelude.{◌&&◌}
use Rattle.std.proofs.lemmas.Bool.{eq-eqb}
use Rattle.lab_wire_members.proofs.MemberLemmas.{no_object, object_found, object_others, member_count-view}
use Rattle.lab_wire_members.proofs.members.has_members.Goals as goal

pub returns-in_default : goal.returns-in_default
returns-in_default c = sym (no_object _ _ (sym c.in_default.ensures))

pub returns-then-len-count_there : goal.returns-then-len-count_there
returns-then-len-count_there c =
    ap (λ b. b && c.all_kept.result) (sym (eq-eqb c.len.result c.count_there.result c.if-len-count_there.true))
    ∙ object_found _ _ _ c.len.result c.count_there.result c.all_kept.result (sym c.in-Some.ensures)
    (member_count-view _ ∙ sym c.len.ensures.len) c.count_there.ensures c.all_kept.ensures

pub returns-else-len-count_there : goal.returns-else-len-count_there
returns-else-len-count_there c =
    object_others _ _ _ c.len.result c.count_there.result (sym c.in-Some.ensures)
    (member_count-view _ ∙ sym c.len.ensures.len) c.count_there.ensures c.if-len-count_there.false
