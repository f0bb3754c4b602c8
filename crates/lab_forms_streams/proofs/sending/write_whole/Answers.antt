use Rattle.std.proofs.Common.{arith, sym, subst}
use Rattle.std.proofs.Math.Seq.{take-add}
use Rattle.std.proofs.lemmas.List.{take_rest}
use Rattle.std.proofs.KnownBytes.{Appends-trans}
use Rattle.std.specs.Io.KnownBytes.{Appends}
use Rattle.lab_forms_streams.proofs.sending.write_whole.Goals as goal

pub loop-sent-preserved : goal.loop-sent-preserved
loop-sent-preserved g c =
    let bytes = c.args.bytes.now in
    let sent = c.loop-sent.sent in
    let taken = rw (take_rest bytes sent) at c.in-Ok.ensures.bytes in
    record {
      within = omega (arith, c.in-Ok.ensures.bound);
      prefix = subst (Appends _ _) (sym (take-add sent c.in-Ok.taken bytes))
          (Appends-trans _ _ _ _ _ c.loop-sent.invariant.prefix taken);
    }
