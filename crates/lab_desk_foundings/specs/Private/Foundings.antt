-- What clauses of private functions say beside Foundings.antt.
use Rattle.std.specs.Prelude.{◌≡◌, ℕ, List}
use Rattle.lab_forms_texts.specs.declared.tick.Tick.{Tick}
use Rattle.lab_records_keeper.specs.Worlds.{World, Lives, Leaves}
use Rattle.lab_desk_foundings.specs.Foundings.{Body, Bears, born_of, Births, line_of, IsRefusedLine}

-- ---- the line that answers a founding

-- a founding that was taken: its line is that of the laboratory's birth, or of the refusal that
-- comes first; and the keeper was there, where a laboratory is born from the body
pub record TakesFounding (old new : World) (code : List ℕ) (tick : Tick) (body : Body)
    (line : List ℕ) : Type 0 where
  pub answered : line ≡ line_of code (born_of (old.meaning code) code tick body)
  pub after : Births code tick body old.meaning new.meaning
  pub lives : Bears code tick body → Lives old new

-- a founding that was refused: for memory, or by a store that may refuse, which was handed a
-- newborn; every laboratory means what it meant
pub record RefusesFounding (old new : World) (code : List ℕ) (tick : Tick) (body : Body)
    (line : List ℕ) : Type 0 where
  pub answered : IsRefusedLine (old.may_refuse × Bears code tick body) line
  pub same : Leaves old new
