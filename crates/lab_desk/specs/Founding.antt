-- A founding that was answered: the contract of `Desk::found`.
use Rattle.std.specs.Prelude.{◌≡◌, ℕ, List, Result, IfErr, IsSome, OnErr, OnOk}
use Rattle.lab_forms_texts.specs.declared.tick.Tick.{Tick}
use Rattle.lab_records_keeper.specs.declared.keeper.Keeper.{Ghosts}
use Rattle.lab_records_keeper.specs.Worlds.{World, CommitsAs, Given, IsDurable, Leaves, Lives, Passes, Quiet}
use Rattle.lab_desk_events.specs.Causes.{RefusesBirth}
use Rattle.lab_desk_events.specs.Keeping.{Stays}
use Rattle.lab_desk_foundings.specs.declared.faults.FoundFault.{FoundFault}
use Rattle.lab_desk_foundings.specs.Faults.{FoundFaultFits, OnBody, OnKept, OnUncommitted}
use Rattle.lab_desk_foundings.specs.Foundings.{Births, Body, Founds}

module _ {S : Type 0} (keeper : Ghosts S) (old new : S) (code : List ℕ) (tick : Tick) (body : Body)
    (result : Result (Unit {0}) FoundFault) where
  abbrev pub before : World
  before = keeper.world old

  abbrev pub after : World
  after = keeper.world new

  pub record AnswersFounding : Type 0 where
    -- the laboratory was founded from its body; after an error every laboratory means what it
    -- meant, and the rows rest
    pub founded : Given before after
        (OnOk result (Founds before after (keeper.places old new) code tick body))
    pub err : Given before after (OnErr result (Leaves before after))
    pub rows_err : Given before after
        (OnErr result ((keeper.world new).is_live → keeper.rests old new))
    pub fault : IfErr result (FoundFaultFits (keeper.world old).may_refuse
        (Given before after (IsSome ((keeper.world old).meaning code))) code tick body)
    -- a founding that the store refused has its cause there
    pub cause : IfErr result (FoundFaultFits (RefusesBirth keeper old new tick code body) (Unit {0})
        code tick body)
    pub lives : Given before after (OnKept result (Lives before after))
    -- the keeper isn't asked where the body is at fault
    pub untouched : OnBody result (new ≡ old)
    -- a crash may leave what it could before, or the birth that the body makes; no more than it
    -- could before, where nothing was to be committed; once the laboratory is founded, the birth
    -- alone
    pub crash : Given before after (CommitsAs (Births code tick body) before after)
    pub quiet : Given before after (OnUncommitted result (Quiet before after))
    pub durable : Given before after (OnOk result (IsDurable after))
    -- what stays true, as of a request
    pub stays : Given before after (Stays before after)
    pub passes : Passes before after
