use Rattle.std.proofs.Common.{codes, refl}
use Rattle.lab_program_host.proofs.ToldLemmas.{told_parts}
use Rattle.lab_program_host.proofs.told.tell.Goals as goal

pub returns : goal.returns
returns g c =
    told_parts (codes "labdesk: ") c.args.word.now (codes "\n") _ _ _ _ _ _ refl
    c.in_ok-tell_after.ensures.whole c.in_ok-tell_after-2.ensures.whole
    c.tell_after-3.ensures.whole c.tell_after-3.ensures.cut
