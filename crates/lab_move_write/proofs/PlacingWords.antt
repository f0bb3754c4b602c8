-- Definitions for proofs only, which belong to specs/Placings.antt: no clause names them.
use Rattle.std.specs.Prelude.{[]}
use Rattle.lab_records_kept.specs.declared.labs.Lab.{Lab}

-- the laboratory before it has anything
abbrev pub emptied : Lab → Lab
emptied lab = record lab { persons = []; sessions = []; forms = []; records = []; trail = [] }
