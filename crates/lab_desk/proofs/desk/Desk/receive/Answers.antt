-- A request that was received is handled by the desk; bytes that are refused, and a request for which
-- there was no memory, leave the keeper alone.
use Rattle.std.proofs.Common.{sym, subst, rules, ap, ◌∙◌, Ok, Err}
use Rattle.std.specs.Prelude.{IfSome}
use Rattle.lab_wire_heads.specs.Receiving.{IsReception}
use Rattle.lab_wire.specs.Asked.{asked}
use Rattle.lab_wire.specs.declared.refusals.RequestRefusal.TheVariants.{Head}
use Rattle.lab_desk.specs.Serving.{Serves}
use Rattle.lab_desk_events.proofs.Lasting.{still_stays}
use Rattle.lab_desk.proofs.HandlingLemmas.{exhausted_so, refused_so}
use Rattle.lab_desk.proofs.Receiving.{asked_as, refused_as, some_asked}
use Rattle.lab_desk.proofs.desk.Desk.receive.Goals as goal

pub returns-in-Ok-clause-serves : goal.returns-in-Ok-clause-serves
returns-in-Ok-clause-serves g c =
    record {
      handled = record {
        asks = asked c.in-Ok.request;
        asked_are = asked_as (g.R.ByteSource.remaining c.args.reader.now) c.in-Ok.request c.in-Ok.ensures.exact;
        is_taken = c.handle_received.result;
        handles = c.handle_received.ensures;
      };
      stays = c.handle_received.ensures.stays;
      passes = c.handle_received.ensures.passes;
    }

pub returns-in-Err-Refused-clause-serves : goal.returns-in-Err-Refused-clause-serves
returns-in-Err-Refused-clause-serves g c =
    let kept = c.args.self.now.keeper in
    subst (λ keeper. Serves g.S.Keeper kept keeper (record {
      known = g.R.ByteSource.remaining c.args.reader.now;
      tick = c.args.tick.now;
      reply = c.refuse.new.self.reply;
    }) (Ok tt))
    (sym c.refuse.ensures.keeper) (record {
      handled = record {
        asks = Err (Head c.in-Err-Refused.refusal);
        asked_are = refused_as (g.R.ByteSource.remaining c.args.reader.now) c.in-Err-Refused.refusal
            (subst (λ result. IfSome (g.R.ByteSource.remaining c.args.reader.now)
            (λ bytes. IsReception bytes result))
            (c.in-Err-Refused.is ∙ ap Err c.in-Err-Refused.field-0-is)
            c.read_request.ensures.exact);
        is_taken = c.refuse.result;
        handles = refused_so g.S.Keeper kept c.args.tick.now c.refuse.result
            c.refuse.new.self.reply (g.met.S.Keeper.still kept) (Head c.in-Err-Refused.refusal)
            c.refuse.ensures.replied c.refuse.ensures.memory;
      };
      stays = λ within honest reached. still_stays (g.S.Keeper.world kept) reached;
      passes = search rules;
    })

pub returns-in-Err-Memory-clause-serves : goal.returns-in-Err-Memory-clause-serves
returns-in-Err-Memory-clause-serves g c =
    let kept = c.args.self.now.keeper in
    let some = some_asked (g.R.ByteSource.remaining c.args.reader.now) in
    subst (λ keeper. Serves g.S.Keeper kept keeper (record {
      known = g.R.ByteSource.remaining c.args.reader.now;
      tick = c.args.tick.now;
      reply = c.exhaust.new.self.reply;
    }) (Ok tt))
    (sym c.exhaust.ensures.keeper) (record {
      handled = record {
        asks = some.0;
        asked_are = some.1;
        is_taken = c.exhaust.result;
        handles = exhausted_so g.S.Keeper kept c.args.tick.now c.exhaust.result
            c.exhaust.new.self.reply (g.met.S.Keeper.still kept) some.0 c.exhaust.ensures.refused
            c.exhaust.ensures.reply;
      };
      stays = λ within honest reached. still_stays (g.S.Keeper.world kept) reached;
      passes = search rules;
    })

pub returns-in-Err-Read-clause-serves : goal.returns-in-Err-Read-clause-serves
returns-in-Err-Read-clause-serves g c = record {
  handled = tt;
  stays = λ within honest reached. still_stays (g.S.Keeper.world c.args.self.now.keeper) reached;
  passes = search rules;
}

pub returns-in-Err-Write-clause-serves : goal.returns-in-Err-Write-clause-serves
returns-in-Err-Write-clause-serves g c = record {
  handled = tt;
  stays = λ within honest reached. still_stays (g.S.Keeper.world c.args.self.now.keeper) reached;
  passes = search rules;
}
