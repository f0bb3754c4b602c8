-- What clauses of private functions say beside Leaving.antt.
use Rattle.std.specs.Prelude.{◌≡◌, ◌⊎◌, [], ◌∷◌, Bool, true, false}
use Rattle.lab_records_keeper.specs.Worlds.{World, Meaning, IsDurable, Quiet, SameMeaning}
use Rattle.lab_desk_events.specs.Alone.{Happening}
use Rattle.lab_desk_events.specs.Runs.{after_run}
use Rattle.lab_desk_events.specs.Leaving.{as_told}

-- the same of one event
abbrev pub LeavesByOne : World → World → Happening → Bool → Type 0
LeavesByOne old new event taken = (held : Meaning) → new.may_leave held →
    SameMeaning (after_run old.meaning (as_told event taken ∷ [])) held
    ⊎ (((taken ≡ false) × SameMeaning (after_run old.meaning (as_told event true ∷ [])) held)
    ⊎ (old.may_leave held
    × SameMeaning old.meaning (after_run old.meaning (as_told event taken ∷ []))))

-- a founding that was taken has its rows on the disk, or left every laboratory, and no more than
-- before for a crash to leave
abbrev pub Settles : World → World → Type 0
Settles old new =
    IsDurable new ⊎ (Quiet old new × (old.is_live → SameMeaning old.meaning new.meaning))
