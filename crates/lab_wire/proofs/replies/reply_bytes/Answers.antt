use Rattle.std.proofs.Common.{◌∙◌}
use Rattle.lab_wire.proofs.ReplyLemmas.{reply_is}
use Rattle.lab_wire.proofs.replies.reply_bytes.Goals as goal

pub returns : goal.returns
returns c =
    rw (reply_is c.args.tick.now c.args.answer.now _ _ _ _ c.answer_status.ensures c.answer_type.ensures
    (c.deref.ensures ∙ c.in_ok-further.ensures)
    (c.deref-2.ensures.value ∙ c.in_ok-body.ensures)) at c.message.ensures
