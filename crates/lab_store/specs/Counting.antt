-- What a store keeps from one call to the next.
use Rattle.std.specs.Prelude.{Option}
use Rattle.sqlite.specs.State.{State}
use Rattle.lab_store_tables.specs.Ready.{IsAtRest}
use Rattle.lab_store_load.specs.declared.counts.Counted.{Counted}
use Rattle.lab_store_load.specs.Counts.{IsCountedIn, IsOpenIn}

-- a connection at rest; what was counted is right for what it shows; and where anything was, and no
-- fault of the disk went unseen, it is open
pub record IsKeeping (s : State) (counted : Option Counted) : Type 0 where
  pub at_rest : IsAtRest s
  pub right : IsCountedIn s counted
  pub opened : IsOpenIn s counted
