-- What the first bytes of an input found is what all of it founds, where they are more than a body may have.
use Rattle.std.proofs.Common.{◌≡◌, ◌∙◌, ◌+◌, ℕ, List, Option, Some, None, Result, Ok, Err, ap, ap₂, lit<, refl, subst, take}
use Rattle.std.specs.Prelude.{IfOk, IfSome, option_map}
use Rattle.lab_records_keeper.specs.declared.keeper.Keeper.{Ghosts as KeeperOf}
use Rattle.lab_desk_foundings.specs.Faults.{FoundFaultFits}
use Rattle.lab_desk_events.specs.Causes.{RefusesBirth}
use Rattle.lab_forms_texts.specs.declared.tick.Tick.{Tick}
use Rattle.lab_desk_foundings.specs.Foundings.{Body, Founds, IsNewborn, body_limit, founding_in}
use Rattle.lab_desk_foundings.proofs.Bodies.{said_by_front}
use Rattle.lab_program_host.specs.Sources.{Drawing}
use Rattle.lab_program_host.specs.TaskEnds.{TaskEnd}
use Rattle.lab_program_host.specs.declared.faults.RehearsalFault.{RehearsalFault}
use Rattle.lab_program_host.specs.declared.faults.RehearsalFault.TheVariants.{Founding, Server}
use Rattle.lab_program_host.specs.declared.faults.ServerFault.TheVariants.{Read, Write, Memory}
use Rattle.lab_program_opening.specs.declared.faults.OpenFault.{OpenFault}
use Rattle.lab_program_serve.specs.Rehearsals.{rehearsal_tick}
use Rattle.lab_program_serve.specs.RehearseTask.{FoundsBy, IsRehearsal}
use Rattle.lab_program_files.specs.Foundings.{Ends, EndsClosed, EndsFounding, EndsOver, FoundTask, IsFoundedAt, IsFounding, IsRefusedAt}
use Rattle.lab_program.specs.Private.Laboratories.{front_of}

front_says : (bytes : List ℕ) → founding_in (take (body_limit + 1) bytes) ≡ founding_in bytes
front_says bytes = said_by_front (body_limit + 1) bytes (lit< tt)

-- the input of which these bytes were read, where it is known; and else these bytes
abbrev whole_of : Option (List ℕ) → List ℕ → List ℕ
whole_of None read = read
whole_of (Some bytes) read = bytes

whole_is : (input : Option (List ℕ)) (read : List ℕ) → IfSome input (λ all. whole_of input read ≡ all)
whole_is None read = tt
whole_is (Some bytes) read = refl

whole_says : (input : Option (List ℕ)) (read : List ℕ) → IfSome (front_of input) (λ all. read ≡ all)
    → founding_in read ≡ founding_in (whole_of input read)
whole_says None read is = refl
whole_says (Some bytes) read is = ap founding_in is ∙ front_says bytes

-- ---- a founding in a file

abbrev task_of : Drawing → List ℕ → Option (List ℕ) → FoundTask
task_of drawing code body = record { drawing = drawing; code = code; body = body }

module _ {S : Type 0} (keeper : KeeperOf S) (drawing : Drawing) (code : List ℕ) (input : Option (List ℕ)) where
  founded_as : (one other : List ℕ) (old new : S) (tick : Tick) → founding_in one ≡ founding_in other
      → IsFoundedAt keeper old new code tick one → IsFoundedAt keeper old new code tick other
  founded_as one other old new tick same at = record {
    founds = subst (λ (body : Body). Founds (keeper.world old) (keeper.world new) (keeper.places old new) code tick body) same
        at.founds;
    durable = at.durable;
    lives = at.lives;
    stays = at.stays;
  }

  ends_as : (one other : List ℕ) (old new : S) (ending : Result (Unit {0}) RehearsalFault) → founding_in one ≡ founding_in other
      → EndsFounding keeper (task_of drawing code (front_of input)) one old new ending
      → EndsFounding keeper (task_of drawing code input) other old new ending
  ends_as one other old new (Ok done) same ends =
      (ends.0, ends.1, founded_as one other old new ends.0 same ends.2)
  ends_as one other old new (Err (Founding fault)) same ends = (
    ends.0,
    ends.1,
    subst (λ (body : Body). IsRefusedAt keeper old new code ends.0 body fault) same ends.2,
    subst (λ (body : Body). FoundFaultFits (RefusesBirth keeper old new ends.0 code body) (Unit {0}) code ends.0 body fault) same
        ends.3,
  )
  ends_as one other old new (Err (Server Read)) same ends = ends
  ends_as one other old new (Err (Server Write)) same ends =
      (ends.0, ends.1, founded_as one other old new ends.0 same ends.2)
  ends_as one other old new (Err (Server Memory)) same ends = ends

  pub ends_whole : (old new : S) (ending : Result (Unit {0}) RehearsalFault)
      → Ends keeper (task_of drawing code (front_of input)) old new ending
      → Ends keeper (task_of drawing code input) old new ending
  ends_whole old new ending ends = (
    whole_of input ends.0,
    whole_is input ends.0,
    λ honest reached. ends_as ends.0 (whole_of input ends.0) old new ending (whole_says input ends.0 ends.1) (ends.2 honest reached),
  )

  over_whole : (opened : S → Type 0) (ending : Result (Unit {0}) RehearsalFault)
      → EndsOver keeper (task_of drawing code (front_of input)) opened ending
      → EndsOver keeper (task_of drawing code input) opened ending
  over_whole opened ending over =
      (over.0, over.1, over.2, ends_whole over.0 over.1 ending over.3, over.4)

  closed_whole : (opened closed : S → Type 0)
      (ending : Result (Result (Unit {0}) RehearsalFault) OpenFault)
      → IfOk ending (EndsClosed keeper (task_of drawing code (front_of input)) opened closed)
      → IfOk ending (EndsClosed keeper (task_of drawing code input) opened closed)
  unfolding over_whole
  closed_whole opened closed (Ok ending) ends =
      (over_whole opened ending ends.0, ends.1)
  closed_whole opened closed (Err fault) ends = tt

  -- a founding from the first bytes of an input is one from all of it
  pub founding_whole : (opened closed : S → Type 0) (unmade : OpenFault → Type 0) (end : TaskEnd)
      → IsFounding keeper (task_of drawing code (front_of input)) opened closed unmade end
      → IsFounding keeper (task_of drawing code input) opened closed unmade end
  founding_whole opened closed unmade end founding = record {
    ending = founding.ending;
    ends = closed_whole opened closed founding.ending founding.ends;
    prints = founding.prints;
    unbegun = founding.unbegun;
    cause = founding.cause;
    told = founding.told;
  }

-- ---- a rehearsal

founds_as : (code one other : List ℕ) (ending : Result (Unit {0}) RehearsalFault) → founding_in one ≡ founding_in other
    → FoundsBy code one ending → FoundsBy code other ending
founds_as code one other (Ok done) same founds =
    (founds.0, subst (λ (body : Body). IsNewborn code (rehearsal_tick 0) body founds.0) same founds.1)
founds_as code one other (Err (Founding fault)) same founds =
    subst (λ (body : Body). FoundFaultFits ⊥ ⊥ code (rehearsal_tick 0) body fault) same founds
founds_as code one other (Err (Server fault)) same founds = tt

-- a rehearsal of the first bytes of an input is one of all of it
pub rehearsal_whole : (code : List ℕ) (input : Option (List ℕ)) (end : TaskEnd)
    → IsRehearsal (front_of input) code end → IsRehearsal input code end
rehearsal_whole code input end rehearsal = record {
  ending = rehearsal.ending;
  founded = (
    whole_of input rehearsal.founded.0,
    whole_is input rehearsal.founded.0,
    founds_as code rehearsal.founded.0 (whole_of input rehearsal.founded.0) rehearsal.ending
        (whole_says input rehearsal.founded.0 rehearsal.founded.1) rehearsal.founded.2,
  );
  printed = rehearsal.printed;
  prints = rehearsal.prints;
  wrote = rehearsal.wrote;
  told = rehearsal.told;
}

-- ---- the input, of which so many bytes are read at most

-- the bytes of a reader up to a limit are those of the one that it was made of
pub front_taken : {L : Type 0} (remaining : L → Option (List ℕ)) (limit most : ℕ) (limited made : L) →
    limit ≡ most → limited ≡ made → option_map (take limit) (remaining limited) ≡ option_map (take most) (remaining made)
front_taken {L} remaining limit most limited made same is =
    ap₂ (λ (count : ℕ) (reader : L). option_map (take count) (remaining reader)) same is
