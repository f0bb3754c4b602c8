-- A replay, event by event.
use Rattle.std.proofs.Common.{◌≡◌, ℕ, suc, zero, ◌<◌, List, [], ◌∷◌, ◌++◌, length, take, map, Option, Some, None, Bool, refl, sym, ap, subst, ◌∙◌, append_assoc}
use Rattle.std.proofs.Math.Seq.{take-nil}
use Rattle.std.specs.Prelude.{IfSome, OnOk, IfErr, Ok, Err, Result, unwrap_or}
use Rattle.std.specs.List.{concat}
use Rattle.std.specs.Io.KnownBytes.{Appends, Keeps}
use Rattle.std.proofs.KnownBytes.{Appends-nil, Appends-trans, Appends-kept, Keeps-refl}
use Rattle.std.proofs.lemmas.List.Folds.{concat-append}
use Rattle.lab_forms_streams.specs.declared.sending.WriteFault.{WriteFault as Untold}
use Rattle.lab_records_keeper.specs.Worlds.{World}
use Rattle.lab_desk_events.specs.declared.events.Event.{Event}
use Rattle.lab_desk_foundings.specs.declared.run_faults.RunFault.{RunFault}
use Rattle.lab_desk_foundings.specs.declared.run_faults.RunFault.TheVariants.{Memory as RunMemory, Write}
use Rattle.std.proofs.lemmas.List.{map-append}
use Rattle.lab_desk_events.specs.Alone.{happening}
use Rattle.lab_desk_events.specs.Runs.{Handled, IsRun, Runs, RunsCut, answers_of}
use Rattle.lab_desk_foundings.specs.RunFaults.{IfWrite, IfMemory}
use Rattle.lab_program_replay.specs.declared.fault.ReplayFault.{ReplayFault}
use Rattle.lab_program_replay.specs.declared.fault.ReplayFault.TheVariants.{BadEvent, ReadFault, WriteFault, Storage, Memory}
use Rattle.lab_program_replay.specs.Event.{next_event}
use Rattle.lab_program_replay.specs.Fault.{IsInputFault, fault_of_run, fault_line}
use Rattle.lab_program_replay.specs.Reading.{TakesNext}
use Rattle.lab_program_replay.specs.Replay.{BeginsWith, Stops, IsFaultPrinted, IsWritten, Replays, AreEvents}
use Rattle.lab_desk_events.proofs.Running.{run_then, no_run}

-- the events so far were run, and the rest of the input is left
pub record SoFar (old new : World) (input now before after : Option (List ℕ)) : Type 0 where
  pub events : List Event
  pub handled : List Handled
  pub are : AreEvents events handled
  pub rest : List ℕ
  pub begins : IfSome input (λ bytes. BeginsWith events bytes rest × (now ≡ Some rest))
  pub run : IsRun old new handled
  pub wrote : Appends before after (answers_of handled)

-- the events of two runs
events_then : (events more : List Event) (first next : List Handled) → AreEvents events first →
    AreEvents more next → AreEvents (events ++ more) (first ++ next)
events_then events more first next are next_are =
    map-append (λ (one : Handled). one.event) first next
    ∙ ap (λ es. es ++ map (λ (one : Handled). one.event) next) are
    ∙ ap (λ es. map happening events ++ es) next_are
    ∙ sym (map-append happening events more)

-- one event, or none
one_cut : (count : ℕ) (event : Event) →
    map happening (take count (event ∷ [])) ≡ take count (happening event ∷ [])
one_cut zero event = refl
one_cut (suc count) event =
    ap (λ rest. happening event ∷ rest)
    (ap (λ es. map happening es) (take-nil count) ∙ sym (take-nil count))

BeginsWith-append : (es fs : List Event) (a b c : List ℕ) → BeginsWith es a b → BeginsWith fs b c →
    BeginsWith (es ++ fs) a c
BeginsWith-append [] fs a b c first second = subst (λ x. BeginsWith fs x c) (sym first) second
BeginsWith-append (e ∷ es) fs a b c first second =
    (first.0, first.1, BeginsWith-append es fs first.0 b c first.2 second)

begins_at : (input : Option (List ℕ)) →
    IfSome input (λ bytes. BeginsWith [] bytes (unwrap_or input [])
    × (input ≡ Some (unwrap_or input [])))
begins_at None = tt
begins_at (Some bytes) = (refl, refl)

-- before the first event
pub so_far_none : (old : World) (input before : Option (List ℕ)) →
    SoFar old old input input before before
so_far_none old input before = record {
  events = [];
  handled = [];
  are = refl;
  rest = unwrap_or input [];
  begins = begins_at input;
  run = no_run old;
  wrote = Appends-nil before;
}

module _ (old : World) (before : Option (List ℕ)) where
  at_rest : (now left : Option (List ℕ)) (rest : List ℕ)
      (result : Result (Option Event) ReplayFault) → now ≡ Some rest
      → IfSome now (λ input. TakesNext (next_event input) left result) →
      TakesNext (next_event rest) left result
  at_rest now left rest result e next =
      let here : IfSome (Some rest) (λ input. TakesNext (next_event input) left result) =
      subst (λ n. IfSome n (λ input. TakesNext (next_event input) left result)) e next in here

  -- the replay ended where the events so far end
  ended : (ending : Result (Unit {0}) ReplayFault) (new : World)
      (input now mid after : Option (List ℕ)) (sofar : SoFar old new input now before mid)
      → IfSome input (λ bytes. BeginsWith sofar.events bytes sofar.rest
      × Stops ending (next_event sofar.rest)) →
      IsWritten ending sofar.handled (answers_of sofar.handled)
      → Keeps mid after → Replays old new input before after ending
  ended ending new input now mid after sofar stops answered kept = record {
    events = sofar.events;
    handled = sofar.handled;
    are = sofar.are;
    written = answers_of sofar.handled;
    rest = sofar.rest;
    begins = stops;
    run = sofar.run;
    answered = answered;
    wrote = Appends-kept before mid after (answers_of sofar.handled) sofar.wrote kept;
  }

  ends : (input now left : Option (List ℕ)) (events : List Event) (rest : List ℕ) →
      IfSome input (λ bytes. BeginsWith events bytes rest × (now ≡ Some rest))
      → IfSome now (λ input. TakesNext (next_event input) left (Ok None)) →
      IfSome input (λ bytes. BeginsWith events bytes rest × Stops (Ok tt) (next_event rest))
  ends None now left events rest begins next = tt
  ends (Some bytes) now left events rest begins next =
      (begins.0, at_rest now left rest (Ok None) begins.1 next)

  -- the input ended
  pub replays_whole : (new : World) (input now left after : Option (List ℕ)) →
      SoFar old new input now before after
      → IfSome now (λ input. TakesNext (next_event input) left (Ok None)) →
      Replays old new input before after (Ok tt)
  replays_whole new input now left after sofar next =
      ended (Ok tt) new input now after after sofar
      (ends input now left sofar.events sofar.rest sofar.begins next) refl
      (Keeps-refl after)

  fails : (fault : ReplayFault) (input now left : Option (List ℕ)) (events : List Event)
      (rest : List ℕ) → IfSome input (λ bytes. BeginsWith events bytes rest × (now ≡ Some rest))
      → IfSome now (λ input. TakesNext (next_event input) left (Err fault)) →
      IfSome input (λ bytes. BeginsWith events bytes rest × Stops (Err fault) (next_event rest))
  fails fault None now left events rest begins next = tt
  fails BadEvent (Some bytes) now left events rest begins next =
      (begins.0, at_rest now left rest (Err BadEvent) begins.1 next)
  fails ReadFault (Some bytes) now left events rest begins next = (begins.0, tt)
  fails WriteFault (Some bytes) now left events rest begins next = (begins.0, tt)
  fails Storage (Some bytes) now left events rest begins next = (begins.0, tt)
  fails Memory (Some bytes) now left events rest begins next = (begins.0, tt)

  answered_whole : (fault : ReplayFault) (answers : List Handled) → IsInputFault fault →
      IsWritten (Err fault) answers (answers_of answers)
  answered_whole BadEvent answers h = refl
  answered_whole ReadFault answers h = refl
  answered_whole WriteFault answers h = absurd h
  answered_whole Storage answers h = absurd h
  answered_whole Memory answers h = refl

  -- there was no next event
  pub replays_up_to : (fault : ReplayFault) (new : World) (input now left after : Option (List ℕ)) →
      SoFar old new input now before after
      → IfSome now (λ input. TakesNext (next_event input) left (Err fault)) → IsInputFault fault →
      Replays old new input before after (Err fault)
  replays_up_to fault new input now left after sofar next input_fault =
      ended (Err fault) new input now after after sofar
      (fails fault input now left sofar.events sofar.rest sofar.begins next)
      (answered_whole fault sofar.handled input_fault) (Keeps-refl after)

  stopped : (input now : Option (List ℕ)) (events : List Event) (rest : List ℕ) →
      IfSome input (λ bytes. BeginsWith events bytes rest × (now ≡ Some rest))
      → IfSome input (λ bytes. BeginsWith events bytes rest × Unit {0})
  stopped None now events rest begins = tt
  stopped (Some bytes) now events rest begins = (begins.0, tt)

  -- the input was asked too often
  pub replays_tired : (new : World) (input now after : Option (List ℕ)) →
      SoFar old new input now before after
      → Replays old new input before after (Err ReadFault)
  replays_tired new input now after sofar =
      ended (Err ReadFault) new input now after after sofar
      (stopped input now sofar.events sofar.rest sofar.begins) refl (Keeps-refl after)

  -- there was no memory to run the event
  no_memory : (new : World) (input now mid after : Option (List ℕ)) →
      SoFar old new input now before mid → Keeps mid after
      → Replays old new input before after (Err Memory)
  no_memory new input now mid after sofar kept =
      ended (Err Memory) new input now mid after sofar
      (stopped input now sofar.events sofar.rest sofar.begins) refl kept

  abbrev Rest : (input left : Option (List ℕ)) (events : List Event) → Type 0
  Rest input left events = (rest : List ℕ)
      × IfSome input (λ bytes. BeginsWith events bytes rest × (left ≡ Some rest))

  taken_on : (event : Event) (input now left : Option (List ℕ)) (events : List Event)
      (rest : List ℕ) → IfSome input (λ bytes. BeginsWith events bytes rest × (now ≡ Some rest))
      → IfSome now (λ input. TakesNext (next_event input) left (Ok (Some event))) →
      Rest input left (events ++ event ∷ [])
  taken_on event None now left events rest begins next = (rest, tt)
  taken_on event (Some bytes) now left events rest begins next =
      let took = at_rest now left rest (Ok (Some event)) begins.1 next in (
        took.0,
        (
          BeginsWith-append events (event ∷ []) bytes rest took.0 begins.0
              (took.0, took.1, refl),
          took.2,
        ),
      )

  -- the answers of two runs
  answers_then : (first next : List Handled) →
      answers_of (first ++ next) ≡ answers_of first ++ answers_of next
  answers_then first next =
      ap concat (map-append (λ (one : Handled). one.answer) first next)
      ∙ concat-append (map (λ (one : Handled). one.answer) first)
      (map (λ (one : Handled). one.answer) next)

  -- the event was run
  pub so_far_more : (event : Event) (mid new : World) (taken : List Bool)
      (input now left after last : Option (List ℕ)) → (mid.may_refuse → old.may_refuse)
      → SoFar old mid input now before after →
      IfSome now (λ input. TakesNext (next_event input) left (Ok (Some event)))
      → Runs mid new (happening event ∷ []) taken after last → SoFar old new input left before last
  so_far_more event mid new taken input now left after last wider sofar next runs =
      let more = taken_on event input now left
      sofar.events sofar.rest sofar.begins next in
      record {
        events = sofar.events ++ event ∷ [];
        handled = sofar.handled ++ runs.handled;
        are = events_then sofar.events (event ∷ []) sofar.handled runs.handled sofar.are
            runs.told.events_are;
        rest = more.0;
        begins = more.1;
        run = run_then old mid new sofar.handled runs.handled wider sofar.run runs.run;
        wrote = subst (Appends before last) (sym (answers_then sofar.handled runs.handled))
            (Appends-trans before after last (answers_of sofar.handled)
            (answers_of runs.handled) sofar.wrote runs.written);
      }

  abbrev Cut : (input : Option (List ℕ)) (events : List Event) → Type 0
  Cut input events = (rest : List ℕ)
      × IfSome input (λ bytes. BeginsWith events bytes rest × Unit {0})

  taken_some : (n : ℕ) (event : Event) (input now left : Option (List ℕ)) (events : List Event)
      (rest : List ℕ) → IfSome input (λ bytes. BeginsWith events bytes rest × (now ≡ Some rest))
      → IfSome now (λ input. TakesNext (next_event input) left (Ok (Some event))) →
      Cut input (events ++ take n (event ∷ []))
  taken_some n event None now left events rest begins next = (rest, tt)
  taken_some zero event (Some bytes) now left events rest begins next =
      (rest, (BeginsWith-append events [] bytes rest rest begins.0 refl, tt))
  taken_some (suc n) event (Some bytes) now left events rest begins next =
      let took = at_rest now left rest (Ok (Some event)) begins.1 next in
      let one : take (suc n) (event ∷ []) ≡ event ∷ [] = ap (λ l. event ∷ l) (take-nil n) in (
        took.0,
        (
          subst (λ l. BeginsWith (events ++ l) bytes took.0) (sym one)
              (BeginsWith-append events (event ∷ []) bytes rest took.0 begins.0
              (took.0, took.1, refl)),
          tt,
        ),
      )

  -- the event was run, and its answer was cut
  replays_cut : (event : Event) (taken : List Bool) (sent : ℕ) (mid new : World)
      (input now left after last : Option (List ℕ)) → (mid.may_refuse → old.may_refuse)
      → SoFar old mid input now before after →
      IfSome now (λ input. TakesNext (next_event input) left (Ok (Some event)))
      → RunsCut mid new (happening event ∷ []) taken sent after last →
      Replays old new input before last (Err WriteFault)
  replays_cut event taken sent mid new input now left after last wider sofar next runs =
      let more = taken_some (length taken) event input now left
      sofar.events sofar.rest sofar.begins next in
      let ends : List Handled = runs.handled ++ runs.last ∷ [] in
      record {
        events = sofar.events ++ take (length taken) (event ∷ []);
        handled = sofar.handled ++ ends;
        are = events_then sofar.events (take (length taken) (event ∷ [])) sofar.handled ends sofar.are
            (runs.told.events_are ∙ sym (one_cut (length taken) event));
        written = answers_of sofar.handled
            ++ (answers_of runs.handled ++ take sent runs.last.answer);
        rest = more.0;
        begins = more.1;
        run = run_then old mid new sofar.handled ends wider sofar.run runs.run;
        answered = (
          sofar.handled ++ runs.handled,
          runs.last,
          sent,
          sym (append_assoc sofar.handled runs.handled (runs.last ∷ [])),
          runs.short,
          sym (append_assoc (answers_of sofar.handled) (answers_of runs.handled)
              (take sent runs.last.answer))
              ∙ ap (λ l. l ++ take sent runs.last.answer)
              (sym (answers_then sofar.handled runs.handled)),
        );
        wrote = Appends-trans before after last (answers_of sofar.handled)
            (answers_of runs.handled ++ take sent runs.last.answer) sofar.wrote runs.written;
      }

  -- a run of the event that stopped: for memory before it was handled, or at its answer
  pub replays_stopped : {D : Type 0} (world : D → World) (mid new : D) →
      ((world mid).may_refuse → old.may_refuse)
      → (event : Event) (fault : RunFault) (input now left after last : Option (List ℕ))
      → SoFar old (world mid) input now before after →
      IfSome now (λ input. TakesNext (next_event input) left (Ok (Some event)))
      → IfWrite (λ taken sent. RunsCut (world mid) (world new) (happening event ∷ []) taken sent after last)
      fault
      → IfMemory ((new ≡ mid) × Keeps after last) fault
      → Replays old (world new) input before last (Err (fault_of_run fault))
  replays_stopped world mid new wider event RunMemory input now left after last sofar next cut
      memory =
      no_memory (world new) input now after last (rw memory.0 sofar) memory.1
  replays_stopped world mid new wider event
      (Write taken sent) input now left after last sofar next cut memory =
      replays_cut event taken.items sent (world mid)
      (world new) input now left after last wider sofar next cut

-- a line that was told, whole or in part
pub told : (fault : ReplayFault) (old new : Option (List ℕ)) (r : Result (Unit {0}) Untold) →
    OnOk r (Appends old new (fault_line fault))
    → IfErr r (λ untold. Appends old new (take untold.sent (fault_line fault))) →
    IfErr r (λ untold. untold.sent < length (fault_line fault)) → IsFaultPrinted fault r old new
told fault old new (Ok _) whole cut short = whole
told fault old new (Err untold) whole cut short = (cut, short)
