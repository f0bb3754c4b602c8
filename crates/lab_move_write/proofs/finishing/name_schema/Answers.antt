use Rattle.std.proofs.Common.{◌⊎◌, inr, ℕ, [], Result, Ok, Err, IfErr, IfOk}
use Rattle.sqlite.specs.declared.error.Error.{Error}
use Rattle.sqlite.specs.State.{State, ExecutesInside}
use Rattle.lab_store_write.specs.Calls.{Steps}
use Rattle.lab_store_write.proofs.AnyEndings.{FailsBy}
use Rattle.lab_store_write.specs.Causes.{RunsInside}
use Rattle.lab_store_write.proofs.Failing.{ran_badly, still_on}
use Rattle.lab_move_write.specs.Namings.{NamesSchema, naming_text}
use Rattle.lab_move_write.proofs.NamingLemmas.{naming_ours, schema_named}
use Rattle.lab_move_write.proofs.finishing.name_schema.Goals as goal

if_named : (old new : State) (r : Result ℕ Error) → ExecutesInside 0 naming_text [] old new r → IfOk r (λ _. Steps NamesSchema old new)
if_named old new (Ok count) ran = schema_named old new count ran
if_named old new (Err e) ran = tt

if_refused : {T : Type 0} (state : T → State) (old new : T) (r : Result ℕ Error) → RunsInside (state old) (state new) → ExecutesInside 0 naming_text [] (state old) (state new) r
    → IfErr r (λ e. ⊥ ⊎ FailsBy state old new e)
if_refused state old new (Ok count) goes ran = tt
if_refused state old new (Err e) goes ran = inr (ran_badly state naming_text [] naming_ours old new e goes ran)

pub returns : goal.returns
returns g c = record {
  writes = record {
    stays = c.run.ensures.stays;
    made = λ inside clean. if_named (g.W.Writable.state c.args.tx.now) (g.W.Writable.state c.run.new.tx) c.run.result (c.run.ensures.runs inside clean);
    failed = λ inside clean typed. if_refused g.W.Writable.state c.args.tx.now c.run.new.tx c.run.result
        (still_on (g.W.Writable.state c.args.tx.now) (g.W.Writable.state c.run.new.tx) c.run.ensures.stays.survives inside clean typed) (c.run.ensures.runs inside clean);
  };
  ran = λ inside clean. c.run.ensures.runs inside clean;
}
