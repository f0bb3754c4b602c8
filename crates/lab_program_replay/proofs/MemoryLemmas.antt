-- A connection to an empty store in memory is at rest, and nothing is there.
use Rattle.sqlite.specs.State.{State}
use Rattle.sqlite.specs.Steps.{IsEmpty}
use Rattle.lab_store_tables.specs.Ready.{IsAtRest}
use Rattle.lab_store_files.specs.NewFiles.{IsBlank}

pub rests_when_empty : (s : State) → IsEmpty s → IsAtRest s
rests_when_empty s empty = record { alone = empty.0.autocommit; settled = λ clean live. empty.0.clean }

pub blank_when_empty : (s : State) → IsEmpty s → IsBlank s.now
blank_when_empty s empty = empty.2
