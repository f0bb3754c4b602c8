-- Of the tasks of one laboratory: its name is a code, or none is begun; and nothing was begun since
-- memory ran out.
use Rattle.std.proofs.Common.{◌≡◌, ℕ, List, [], Option, Result, Err, Bool, true, false, inl, unwrap_or}
use Rattle.std.specs.Io.KnownBytes.{Appends, Keeps}
use Rattle.std.proofs.KnownBytes.{Appends-kept, Appends-nil}
use Rattle.lab_forms_texts.specs.Faults.{NameFaultFits, memory_entry, name_fault_entry}
use Rattle.lab_forms_texts.specs.Names.{is_lab_code}
use Rattle.lab_forms_texts.specs.declared.faults.BadName.{BadName}
use Rattle.lab_forms_texts.specs.declared.refusals.Fault.{Fault}
use Rattle.lab_forms_texts.specs.declared.refusals.Fault.TheVariants.{Refused, Memory as NoMemory}
use Rattle.lab_forms_streams.specs.declared.sending.WriteFault.{WriteFault as Untold}
use Rattle.lab_records_keeper.specs.declared.keeper.Keeper.{Ghosts as KeeperOf}
use Rattle.lab_program_host.proofs.ReadLemmas.{all_of}
use Rattle.lab_program_host.specs.TaskEnds.{TaskEnd}
use Rattle.lab_program_serve.specs.RehearseTask.{IsRehearsal}
use Rattle.lab_program_host.specs.declared.faults.RehearsalFault.TheVariants.{Server as RehearsalServer}
use Rattle.lab_program_host.specs.declared.faults.ServerFault.TheVariants.{Memory as ServerMemory}
use Rattle.lab_program_opening.specs.declared.faults.OpenFault.{OpenFault}
use Rattle.lab_program_opening.specs.Faults.{Declines as DeclinesTask, unopened_fault}
use Rattle.lab_program_files.specs.Copying.{CopyTask, IsCopying}
use Rattle.lab_program_files.specs.Foundings.{FoundTask, IsFounding}
use Rattle.lab_program_app.specs.Explaining.{Stopped}
use Rattle.lab_program.specs.Laboratories.{Declines, OfCode, OfCodeIf}

-- a task's end, seen so
abbrev pub seen : (before after told_before told_after : Option (List ℕ)) → Result ℕ Untold → TaskEnd
seen before after told_before told_after status = record {
  before = before;
  after = after;
  told_before = told_before;
  told_after = told_after;
  status = status;
}

-- ---- of a code

module _ (before after told_before told_after : Option (List ℕ)) (status : Result ℕ Untold) where
  -- nothing was begun, and that memory ran out was told
  abbrev pub IsUnbegun : Type 0
  IsUnbegun = Keeps before after × Stopped memory_entry.word told_before told_after status

  module _ (Done : Type 0) (unbegun : IsUnbegun → Done) where
    refused : (admitted : Bool) (fault : Fault BadName) → NameFaultFits admitted fault
        → Declines (name_fault_entry fault).word (seen before after told_before told_after status)
        → OfCodeIf (seen before after told_before told_after status) Done admitted
    refused true (Refused _) fits declines = absurd (cc)
    refused true NoMemory fits declines = unbegun declines
    refused false fault fits declines = (fault, declines)

    -- a text that was refused as a code
    pub declined : (lab : List ℕ) (fault : Fault BadName) → NameFaultFits (is_lab_code lab) fault
        → Declines (name_fault_entry fault).word (seen before after told_before told_after status)
        → OfCode (seen before after told_before told_after status) Done lab
    declined lab fault fits declines = refused (is_lab_code lab) fault fits declines

    pub never_begun : (admitted : Bool) → IsUnbegun
        → OfCodeIf (seen before after told_before told_after status) Done admitted
    never_begun true told = unbegun told
    never_begun false told = (NoMemory, told)

  admitted_done : (Done : Type 0) (admitted : Bool) → admitted ≡ true → Done
      → OfCodeIf (seen before after told_before told_after status) Done admitted
  admitted_done Done true is done = done
  admitted_done Done false is done = absurd (cc)

  -- a text that is one
  pub done_of_code : (Done : Type 0) (lab : List ℕ) → is_lab_code lab ≡ true → Done
      → OfCode (seen before after told_before told_after status) Done lab
  done_of_code Done lab is done = admitted_done Done (is_lab_code lab) is done

-- ---- each task, not begun

module _ (before after told_before told_after : Option (List ℕ)) (status : Result ℕ Untold) where
  pub declines_task : IsUnbegun before after told_before told_after status → DeclinesTask unopened_fault status told_before told_after
  declines_task told = told.1

  pub no_founding : {S : Type 0} (keeper : KeeperOf S) (task : FoundTask)
      (opened closed : S → Type 0) (unmade : OpenFault → Type 0) → unmade unopened_fault
      → IsUnbegun before after told_before told_after status
      → IsFounding keeper task opened closed unmade (seen before after told_before told_after status)
  no_founding keeper task opened closed unmade cause told = record {
    ending = Err unopened_fault;
    ends = tt;
    prints = tt;
    unbegun = told.0;
    cause = cause;
    told = declines_task told;
  }

  pub no_copying : {S : Type 0} (keeper : KeeperOf S) (refuses : S → S → List ℕ → ℕ → ℕ → Type 0) (task : CopyTask)
      (opened closed : S → Type 0) (unopened : OpenFault → Type 0) → unopened unopened_fault
      → IsUnbegun before after told_before told_after status
      → IsCopying keeper refuses task opened closed unopened (seen before after told_before told_after status)
  no_copying keeper refuses task opened closed unopened cause told = record {
    ending = Err unopened_fault;
    copies = tt;
    unbegun = told.0;
    cause = inl cause;
    told = declines_task told;
  }

  pub printed_none : Keeps before after → Appends before after []
  printed_none same = Appends-kept before before after [] (Appends-nil before) same

  pub no_rehearsal : (code : List ℕ) (body : Option (List ℕ)) → IsUnbegun before after told_before told_after status
      → IsRehearsal body code (seen before after told_before told_after status)
  no_rehearsal code body told = record {
    ending = Err (RehearsalServer ServerMemory);
    founded = (unwrap_or body [], all_of body, tt);
    printed = [];
    prints = tt;
    wrote = printed_none told.0;
    told = told.1;
  }
