-- The inspection copy of a laboratory of a file (21 CFR 11.10(b); docs/COPIES.md has its text).
use Rattle.std.specs.Prelude.{◌≡◌, ◌⊎◌, ℕ, List, [], ◌∷◌, Option, None, Result, IfErr, IfOk, IsSome}
use Rattle.std.specs.Io.KnownBytes.{Keeps}
use Rattle.lab_records_keeper.specs.declared.keeper.Keeper.{Ghosts}
use Rattle.lab_records_keeper.specs.Worlds.{Given, Shuts}
use Rattle.lab_program_host.specs.Sources.{GivesInOrder}
use Rattle.lab_program_host.specs.TaskEnds.{TaskEnd}
use Rattle.lab_copy_rows.specs.Outs.{Sends}
use Rattle.lab_records_copy_out.specs.declared.faults.CopyOutFault.{CopyOutFault}
use Rattle.lab_records_copy_out.specs.Causes.{Refusing, RefusesCopy}
use Rattle.lab_records_copy_out.specs.Faults.{CopyFaultFits, copy_fault_word}
use Rattle.lab_records_copy_out.specs.Resting.{IsOnlyRead}
use Rattle.lab_records_copy_out.specs.CopyTexts.{CanWalk, copy_text, desk_order}
use Rattle.lab_program_opening.specs.declared.faults.OpenFault.{OpenFault}
use Rattle.lab_program_opening.specs.declared.faults.OpenFault.TheVariants.{Drawing}
use Rattle.lab_program_opening.specs.Faults.{TellsTask}

-- what the task `copy` is given
pub record CopyTask : Type 0 where
  -- the moments that the clock gives before it and after it, where they are known
  pub moments : Option (List ℕ)
  pub later : Option (List ℕ)
  -- the laboratory
  pub code : List ℕ
  -- the numbers of its first and of its last record
  pub from : ℕ
  pub to : ℕ

module _ {S : Type 0} (keeper : Ghosts S) (refuses : Refusing S) (task : CopyTask)
    (opened : S → Type 0) (before after : Option (List ℕ)) where
  -- over a keeper that was opened, at the moment that the clock gave: the copy's text went out, or
  -- its first bytes where a fault came; and the rows are as they were
  pub record Copies (ending : Result (Unit {0}) CopyOutFault) : Type 0 where
    pub old : S
    pub new : S
    pub begins : opened old
    pub moment : ℕ
    pub given : GivesInOrder task.moments task.later (moment ∷ [])
    pub text : CanWalk (keeper.world old) task.code →
        Given (keeper.world old) (keeper.world new) (Sends before after
        (copy_text (desk_order task.from task.to moment) ((keeper.world old).meaning task.code))
        ending)
    pub fault : IfErr ending (CopyFaultFits
        (Given (keeper.world old) (keeper.world new)
        ((keeper.world old).meaning task.code ≡ None))
        (keeper.world old).may_refuse
        (Given (keeper.world old) (keeper.world new)
        (IsSome ((keeper.world old).meaning task.code))))
    -- where the store refused it, why
    pub cause : IfErr ending (CopyFaultFits (Unit {0})
        (RefusesCopy keeper refuses old new task.code task.from task.to) (Unit {0}))
    pub read : IsOnlyRead keeper.world keeper.rests old new
    -- a fault alone shut the keeper
    pub shuts : Given (keeper.world old) (keeper.world new)
        (Shuts (keeper.world old) (keeper.world new))

-- the task `copy`, by its status and what was told: the keeper was closed as the copy left it
module _ {S : Type 0} (keeper : Ghosts S) (refuses : Refusing S) (task : CopyTask)
    (opened closed : S → Type 0) (unopened : OpenFault → Type 0) where
  -- why no copy was begun: the file wasn't opened; or the clock failed, and the file was closed
  abbrev pub IsUnbegun : OpenFault → Type 0
  IsUnbegun fault = unopened fault
      ⊎ ((fault ≡ Drawing) × ((conn : S) × opened conn × closed conn))

  pub record IsCopying (end : TaskEnd) : Type 0 where
    pub ending : Result (Result (Unit {0}) CopyOutFault) OpenFault
    pub copies : IfOk ending (λ copied.
        (copies : Copies keeper refuses task opened end.before end.after copied)
        × closed copies.new)
    pub unbegun : IfErr ending (λ _. Keeps end.before end.after)
    pub cause : IfErr ending IsUnbegun
    pub told : TellsTask copy_fault_word ending end.status end.told_before end.told_after
