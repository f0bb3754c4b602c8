use Rattle.std.proofs.Common.{subst, sym, ◌∙◌}
use Rattle.std.specs.Str.{IsUtf8}
use Rattle.lab_wire_replies.proofs.PartLemmas.{digits_are_text}
use Rattle.lab_wire_replies.proofs.parts.half_text.Goals as goal

pub returns : goal.returns
returns c =
    let utf8 : IsUtf8 c.digits.result = subst IsUtf8 (sym c.digits.ensures) (digits_are_text c.args.half.now) in
    c.in_ok-from_utf8_lossy.ensures.ok utf8 ∙ c.digits.ensures
