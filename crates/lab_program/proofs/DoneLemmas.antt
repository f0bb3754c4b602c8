-- What is asked for is done, also where nothing was begun since memory ran out.
use Rattle.std.proofs.Common.{◌≡◌, ℕ, List, [], Option, Some, None, Result, Ok, Err, Bool, true, false, refl, sym, subst, unwrap_or, inl, inr}
use Rattle.std.specs.Prelude.{IfSome, nat_le}
use Rattle.std.specs.Io.KnownBytes.{Keeps}
use Rattle.std.proofs.lemmas.List.Elements.{All-nil}
use Rattle.clap.specs.declared.error.kind.ErrorKind.TheVariants.{OutOfMemory}
use Rattle.sqlite.specs.declared.error.Error.{Error}
use Rattle.sqlite.specs.Held.{Held}
use Rattle.sqlite_trees.specs.declared.store.Store.{Ghosts}
use Rattle.lab_forms_texts.specs.Faults.{memory_entry}
use Rattle.lab_forms_texts.specs.Names.{is_lab_code}
use Rattle.lab_forms_streams.specs.declared.sending.WriteFault.{WriteFault as Untold}
use Rattle.lab_forms_texts.specs.declared.refusals.Fault.{Fault}
use Rattle.lab_records_keeper.specs.declared.faults.BadStore.{BadStore}
use Rattle.lab_records_keeper.specs.declared.keeper.Keeper.{Ghosts as KeeperOf}
use Rattle.lab_desk_events.specs.Runs.{IsAnswer}
use Rattle.lab_program_replay.specs.declared.fault.ReplayFault.TheVariants.{Memory as ReplayMemory}
use Rattle.lab_program_replay.specs.Event.{next_event}
use Rattle.lab_program_replay.specs.Replay.{BeginsWith, Stops, PrintsReplayFault as TellsReplay}
use Rattle.lab_copy_rows.specs.Copies.{verdict}
use Rattle.lab_copy_rows.specs.declared.flaws.Flaw.{Flaw}
use Rattle.lab_copy_rows.specs.declared.lines.Counts.{Counts}
use Rattle.lab_copy.specs.Checks.{OfVerdict, csv_rows_of}
use Rattle.lab_program_check.specs.declared.faults.StopFault.TheVariants.{Memory as StopMemory}
use Rattle.lab_program_check.specs.Verdicts.{IsCheck}
use Rattle.lab_program_opening.specs.declared.faults.OpenFault.{OpenFault}
use Rattle.lab_program_opening.specs.Faults.{unopened_fault}
use Rattle.lab_program_files.specs.FileWorlds.{file_keeper, file_refuses}
use Rattle.lab_program_opening.specs.Ends.{WasClosed}
use Rattle.lab_program_opening.specs.Files.{IsOpened, IsOurs, IsUnmade, IsUnopened}
use Rattle.lab_program_opening.specs.Volumes.{FileAt}
use Rattle.lab_program_host.proofs.ReadLemmas.{all_of}
use Rattle.lab_program_host.specs.Sources.{Drawing}
use Rattle.lab_program_files.specs.Copying.{CopyTask}
use Rattle.lab_program_replay.specs.Replays.{IsReplay, ReplaysFromNothing}
use Rattle.lab_program_files.specs.Serving.{IsNotOpenedAnywhere, IsOursAnywhere, ServesFile, WasGivenUpAnywhere}
use Rattle.lab_program_moves.specs.Moves.{IsMigration, MoveTask}
use Rattle.lab_program.specs.CommandLine.{IsDone}
use Rattle.lab_program_app.specs.Explaining.{Stopped}
use Rattle.lab_program.specs.Laboratories.{IsCopiedIf}
use Rattle.lab_program.proofs.UnbegunLemmas.{IsUnbegun, declines_task, never_begun, no_copying, no_founding, no_rehearsal, printed_none, seen}
use Rattle.lab_program_words.specs.Tasks.{Asked, founds, serves, copies, migrates, checks, replays, rehearses}

-- ---- each task, not begun

module _ (before after told_before told_after : Option (List ℕ)) (status : Result ℕ Untold) where
  no_serving : {S : Type 0} (keeper : KeeperOf S) (found opened closed : S → Type 0)
      (unmended : Fault BadStore → Type 0) (unopened : OpenFault → Type 0) (drawing : Drawing) (count : ℕ) → unopened unopened_fault
      → IsUnbegun before after told_before told_after status
      → ServesFile keeper found opened closed unmended unopened drawing count (seen before after told_before told_after status)
  no_serving keeper found opened closed unmended unopened drawing count cause told = (
    None,
    inr (
      inl (told.0, (unopened_fault, cause, declines_task before after told_before told_after status told)),
      tt,
    ),
    tt,
  )

  no_migration : {S Volume : Type 0} (disk : Ghosts S) (files : Volume → List ℕ → FileAt)
      (closed : Held S → Type 0) (task : MoveTask Volume)
      → IsUnbegun before after told_before told_after status
      → IsMigration disk files closed task (seen before after told_before told_after status)
  no_migration disk files closed task told = record {
    ending = Err unopened_fault;
    moves = tt;
    cause = inl tt;
    told = (told.0, declines_task before after told_before told_after status told);
  }

  -- the input may have anything
  begins_none : (input : Option (List ℕ)) →
      IfSome input (λ bytes. BeginsWith [] bytes (unwrap_or input []) × Stops (Err ReplayMemory) (next_event (unwrap_or input [])))
  begins_none None = tt
  begins_none (Some bytes) = (refl, tt)

  replays_none : (input : Option (List ℕ)) → Keeps before after → ReplaysFromNothing input before after (Err ReplayMemory)
  replays_none input same = record {
    events = [];
    handled = [];
    are = refl;
    written = [];
    rest = unwrap_or input [];
    begins = begins_none input;
    each = All-nil (IsAnswer (Unit {0}));
    alone = λ code. refl;
    keeps = tt;
    releasing = λ code. tt;
    answered = refl;
    wrote = printed_none before after told_before told_after status same;
  }

tells_replay : (told_before told_after : Option (List ℕ)) (status : Result ℕ Untold) → Stopped memory_entry.word told_before told_after status
    → TellsReplay (Err ReplayMemory) status told_before told_after
tells_replay told_before told_after (Ok number) told = told
tells_replay told_before told_after (Err untold) told = told

no_replay : (input before after told_before told_after : Option (List ℕ)) (status : Result ℕ Untold)
    → IsUnbegun before after told_before told_after status → IsReplay input before after told_before told_after status
no_replay input before after told_before told_after status told = record {
  ending = Err ReplayMemory;
  replays = replays_none before after told_before told_after status input told.0;
  tells = tells_replay told_before told_after status told.1;
}

no_check_of : (found : Result Counts Flaw) (before after told_before told_after : Option (List ℕ)) (status : Result ℕ Untold)
    → IsUnbegun before after told_before told_after status
    → IsCheck found status before after told_before told_after
no_check_of found before after told_before told_after (Ok number) told =
    record { ending = Err StopMemory; told = told.0; tells = told.1 }
no_check_of found before after told_before told_after (Err untold) told =
    record { ending = Err StopMemory; told = told.0; tells = told.1.1 }

no_check : (input before after told_before told_after : Option (List ℕ)) (status : Result ℕ Untold)
    → IsUnbegun before after told_before told_after status
    → OfVerdict input (λ found. IsCheck found status before after told_before told_after)
no_check input before after told_before told_after status told = (
  unwrap_or input [],
  all_of input,
  no_check_of (verdict (csv_rows_of (unwrap_or input []))) before after told_before told_after status told,
)

-- ---- whichever is asked for

module _ {S Volume : Type 0} (disk : Ghosts S) (files : Volume → List ℕ → FileAt)
    (closes : Held S → Result (Unit {0}) Error → Type 0) (volume : Volume) (drawing : Drawing)
    (before after told_before told_after : Option (List ℕ))
    (status : Result ℕ Untold) where
  no_copy_if : (file : FileAt) (task : CopyTask) (ordered : Bool) → IsUnbegun before after told_before told_after status
      → IsCopiedIf disk file (WasClosed closes) task ordered (seen before after told_before told_after status)
  no_copy_if file task true told = never_begun before after told_before told_after status _
      (no_copying before after told_before told_after status (file_keeper disk) (file_refuses disk) task (IsOurs disk file.holds) (WasClosed closes) (IsUnopened disk (WasClosed closes) file) (inl tt))
      (is_lab_code task.code) told
  no_copy_if file task false told = (OutOfMemory, inl refl, told)

  pub never_done : (asked : Asked) (input : Option (List ℕ)) → IsUnbegun before after told_before told_after status
      → IsDone disk files closes volume drawing asked input (seen before after told_before told_after status)
  never_done (founds file lab) input told = never_begun before after told_before told_after status _
      (no_founding before after told_before told_after status (file_keeper disk)
      (record { drawing = drawing; code = lab; body = input }) (IsOpened disk (files volume file).holds) (WasClosed closes)
      (IsUnmade disk (WasClosed closes) (files volume file)) (inl (inl tt)))
      (is_lab_code lab) told
  never_done (serves file port count) input told =
      no_serving before after told_before told_after status (file_keeper disk) (IsOurs disk (files volume file).holds) (IsOursAnywhere disk files)
      (WasGivenUpAnywhere closes files) (IsNotOpenedAnywhere disk closes files) (IsUnopened disk (WasClosed closes) (files volume file)) drawing count
      (inl tt) told
  never_done (copies file lab from to) input told = no_copy_if (files volume file) (record {
    moments = drawing.moments;
    later = drawing.later;
    code = lab;
    from = from;
    to = to;
  }) (nat_le from to) told
  never_done (migrates old new) input told =
      no_migration before after told_before told_after status disk files (WasClosed closes)
      (record { volume = volume; old = old; new = new }) told
  never_done checks input told = no_check input before after told_before told_after status told
  never_done replays input told = no_replay input before after told_before told_after status told
  never_done (rehearses lab moment) input told = never_begun before after told_before told_after status _
      (no_rehearsal before after told_before told_after status lab input) (is_lab_code lab) told

  pub done_as : (asked other : Asked) (input : Option (List ℕ)) → asked ≡ other
      → IsDone disk files closes volume drawing other input (seen before after told_before told_after status)
      → IsDone disk files closes volume drawing asked input (seen before after told_before told_after status)
  done_as asked other input is done =
      subst (λ a. IsDone disk files closes volume drawing a input (seen before after told_before told_after status)) (sym is) done
