-- Why a request, or a founding, ends with the fault of the keeper's store: the keeper refused to
-- load the part that the request needs, or the changes that are decided on it, or the newborn.
use Rattle.std.specs.Prelude.{◌≡◌, ◌⊎◌, ℕ, List, Option, Some, Result, Ok}
use Rattle.lab_forms_texts.specs.declared.refusals.Fault.{Fault}
use Rattle.lab_forms_texts.specs.declared.tick.Tick.{Tick}
use Rattle.lab_records_kept.specs.declared.births.Newborn.{Newborn}
use Rattle.lab_records_kept.specs.declared.needs.Slice.{Slice}
use Rattle.lab_records_kept.specs.Births.{newborn_lab}
use Rattle.lab_records_kept.specs.Parts.{part_of}
use Rattle.lab_records_keeper.specs.declared.faults.BadStore.{BadStore}
use Rattle.lab_records_keeper.specs.declared.keeper.Keeper.{Ghosts}
use Rattle.lab_records_keeper.specs.Worlds.{Given, Passes}
use Rattle.lab_records_keeper.specs.Calls.{Loads}
use Rattle.lab_records_machine.specs.Needs.{need_of}
use Rattle.lab_records_laws.specs.Deciding.{decided}
use Rattle.lab_wire.specs.declared.commands.Asked.{Asked}
use Rattle.lab_desk_foundings.specs.Foundings.{Body, IsNewborn}

-- the call that loaded a part
abbrev pub loaded : Slice → Result (Option Slice) (Fault BadStore)
loaded slice = Ok (Some slice)

module _ {S : Type 0} (keeper : Ghosts S) (old new : S) (tick : Tick) where
  -- the part that the request needs was loaded, and the changes that are decided on it were refused
  pub record RefusesStep (asked : Asked) : Type 0 where
    pub mid : S
    pub slice : Slice
    pub loads : Loads (keeper.world old) (keeper.world mid) (keeper.rests old mid) (loaded slice)
    pub part : Given (keeper.world old) (keeper.world mid) (Some slice
        ≡ part_of (need_of tick asked.instruction) ((keeper.world old).meaning asked.lab))
    -- an honest end makes the state between honest
    pub passes : Passes (keeper.world mid) (keeper.world new)
    pub refused : keeper.refuses_changes mid new asked.lab
        (decided slice tick asked.instruction.command).changes

  -- a request was refused
  abbrev pub RefusesAsked : Asked → Type 0
  RefusesAsked asked =
      keeper.refuses_load old new asked.lab (need_of tick asked.instruction) ⊎ RefusesStep asked

  -- a founding was refused: of the laboratory that is born from its body
  pub record RefusesBirth (code : List ℕ) (body : Body) : Type 0 where
    pub newborn : Newborn
    pub is : IsNewborn code tick body (newborn_lab newborn)
    pub refused : keeper.refuses_founding old new newborn
