-- How a founding over a keeper ends, and what is printed of it.
use Rattle.std.proofs.Common.{◌≡◌, ℕ, List, [], Option, None, unwrap_or, refl, subst, sym}
use Rattle.std.specs.Prelude.{Err, IfErr, IfSome, Ok, Result}
use Rattle.std.specs.Io.KnownBytes.{Keeps}
use Rattle.lab_forms_texts.specs.declared.tick.Tick.{Tick}
use Rattle.lab_records_keeper.specs.declared.keeper.Keeper.{Ghosts}
use Rattle.lab_records_keeper.specs.Worlds.{Given, IsDurable, Lives}
use Rattle.lab_desk_foundings.specs.declared.faults.FoundFault.{FoundFault}
use Rattle.lab_desk_foundings.specs.Faults.{FoundFaultFits}
use Rattle.lab_desk_foundings.specs.Foundings.{Founds, founding_in}
use Rattle.lab_desk_events.specs.Causes.{RefusesBirth}
use Rattle.lab_desk_events.specs.Keeping.{Stays}
use Rattle.lab_program_host.specs.declared.faults.ServerFault.{ServerFault}
use Rattle.lab_program_host.specs.declared.faults.ServerFault.TheVariants.{Memory, Read, Write}
use Rattle.lab_program_host.specs.Faults.{IsReaderFault}
use Rattle.lab_program_host.proofs.ReadLemmas.{all_of, known_as}
use Rattle.lab_program_host.specs.declared.faults.RehearsalFault.{RehearsalFault as FoundingFault}
use Rattle.lab_program_host.specs.declared.faults.RehearsalFault.TheVariants.{Founding, Server}
use Rattle.lab_program_host.specs.Sources.{Drawing, IsDrawn, drawing_of}
use Rattle.lab_program_files.specs.Foundings.{Ends, EndsFounding, FoundTask, IsFounded, IsRefusedAt, Prints}

-- ---- what is printed

pub prints_idle : (line : List ℕ) (fault : ServerFault) (known : Option (List ℕ)) →
    IsReaderFault fault → Keeps known known → Prints line (Err (Server fault)) known known
prints_idle line Read known h keeps = keeps
prints_idle line Write known h keeps = absurd h
prints_idle line Memory known h keeps = keeps

-- ---- what is made

-- of a tick that wasn't drawn nothing is said
abbrev pub undrawn : Drawing
undrawn = drawing_of None None None None

abbrev pub task_of : Drawing → List ℕ → Option (List ℕ) → FoundTask
task_of drawing code body = record { drawing = drawing; code = code; body = body }

module _ {S : Type 0} (keeper : Ghosts S) (drawing : Drawing) (code : List ℕ) where
  idle : (known : Option (List ℕ)) (bytes : List ℕ) (kept : S) (fault : ServerFault) →
      IsReaderFault fault →
      EndsFounding keeper (task_of drawing code known) bytes kept kept (Err (Server fault))
  idle known bytes kept Read h = refl
  idle known bytes kept Write h = absurd h
  idle known bytes kept Memory h = refl

  -- nothing was done
  pub ends_idle : (known : Option (List ℕ)) (kept : S) (fault : ServerFault) →
      IsReaderFault fault →
      Ends keeper (task_of drawing code known) kept kept (Err (Server fault))
  ends_idle known kept fault h =
      (unwrap_or known [], all_of known, λ honest reached. idle known (unwrap_or known []) kept fault h)

  -- the founding was refused
  pub ends_refused : (known : Option (List ℕ)) (read bytes : List ℕ) (old new : S) (tick : Tick)
      (fault : FoundFault) → IsDrawn drawing tick → read ≡ bytes
      → IfSome known (λ all. bytes ≡ all)
      → Given (keeper.world old) (keeper.world new)
      (IsRefusedAt keeper old new code tick (founding_in read) fault)
      → FoundFaultFits (RefusesBirth keeper old new tick code (founding_in read)) (Unit {0}) code tick
      (founding_in read) fault
      → Ends keeper (task_of drawing code known) old new (Err (Founding fault))
  ends_refused known read bytes old new tick fault drawn same whole refused cause = (
    read,
    known_as known read bytes same whole,
    λ honest reached. (tick, drawn, refused honest reached, cause),
  )

  printed_so : (known : Option (List ℕ)) (bytes : List ℕ) (old new : S)
      (result : Result (Unit {0}) FoundingFault) → IfErr result (λ fault. fault ≡ Server Write) →
      IsFounded keeper (task_of drawing code known) bytes old new →
      EndsFounding keeper (task_of drawing code known) bytes old new result
  printed_so known bytes old new (Ok done) e is = is
  printed_so known bytes old new (Err fault) e is =
      subst (λ f. EndsFounding keeper (task_of drawing code known) bytes old new (Err f)) (sym e) is

  -- the laboratory was founded, whether or not that was printed
  pub ends_founded : (known : Option (List ℕ)) (read bytes : List ℕ) (old new : S) (tick : Tick)
      (result : Result (Unit {0}) FoundingFault) → IsDrawn drawing tick → read ≡ bytes
      → IfSome known (λ all. bytes ≡ all) → IfErr result (λ fault. fault ≡ Server Write) →
      Given (keeper.world old) (keeper.world new) (Founds (keeper.world old) (keeper.world new)
      (keeper.places old new) code tick (founding_in read)) →
      Given (keeper.world old) (keeper.world new) (IsDurable (keeper.world new)) →
      Given (keeper.world old) (keeper.world new) (Lives (keeper.world old) (keeper.world new)) →
      Given (keeper.world old) (keeper.world new) (Stays (keeper.world old) (keeper.world new)) →
      Ends keeper (task_of drawing code known) old new result
  ends_founded known read bytes old new tick result drawn same whole printed founds durable lives stays = (
    read,
    known_as known read bytes same whole,
    λ honest reached.
        printed_so known read old new result printed (
          tick,
          drawn,
          record {
            founds = founds honest reached;
            durable = durable honest reached;
            lives = lives honest reached;
            stays = stays honest reached;
          },
        ),
  )
