use Rattle.std.proofs.Common.{◌++◌, ap, sym, ◌∙◌}
use Rattle.lab_wire_heads.proofs.MessageLemmas.{message_written}
use Rattle.lab_wire_heads.proofs.messages.message.Goals as goal

pub returns : goal.returns
returns c =
    let head = rw c.in_ok-date.ensures at c.in_ok-head.ensures.ok in
    rw c.into_bytes-bytes.ensures.value at c.in_ok-extend_from_slice.ensures.items
    ∙ ap (λ text. text ++ c.args.body.now) head
    ∙ sym (message_written (record {
      status = c.args.status;
      moment = c.args.moment;
      media_type = c.args.media_type.now;
      further = c.args.further.now;
      body = c.args.body.now;
    }))
