-- What reading leaves of a keeper: all laboratories mean what they meant, and the rows are as they
-- were (ISO/IEC 17025:2017, 8.4.2, "records shall be readily available": to show them alters
-- none).
use Rattle.lab_records_keeper.specs.Worlds.{World, Given, Leaves, Passes, Quiet, StaysSafe}

-- a keeper is as it was but for what it read
pub record IsOnlyRead {S : Type 0} (world : S → World) (rests : S → S → Type 0) (old new : S)
    : Type 0 where
  -- every laboratory means what it meant, and the rows rest, where the keeper is there to tell
  pub same : Given (world old) (world new) (Leaves (world old) (world new))
  pub rested : Given (world old) (world new) ((world new).is_live → rests old new)
  -- a crash leaves no more than before, and well-kept tables where it left such alone
  pub quiet : Given (world old) (world new) (Quiet (world old) (world new))
  pub safe : Given (world old) (world new) (StaysSafe (world old) (world new))
  -- the tables are well kept, and the keeper passes on what every call passes on
  pub reached : Given (world old) (world new) (world new).is_reached
  pub passes : Passes (world old) (world new)
