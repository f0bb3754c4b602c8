-- Values from outside, so that a wrong rule in the definitions does not check: the first bytes of an input, and what is done for a word that
-- is no laboratory's code (docs/FORMATS.md).
use Rattle.std.proofs.Common.{◌≡◌, refl, codes, Some, None}
use Rattle.lab_forms_texts.specs.Names.{is_lab_code}
use Rattle.lab_forms_texts.specs.declared.faults.BadName.{BadName}
use Rattle.lab_forms_texts.specs.declared.refusals.Fault.{Fault}
use Rattle.lab_program_host.specs.TaskEnds.{TaskEnd}
use Rattle.lab_program.specs.Private.Laboratories.{front_of}
use Rattle.lab_program.specs.Laboratories.{OfCode}

pub known_fronts : (front_of None ≡ None) × (front_of (Some (codes "{}")) ≡ Some (codes "{}"))
known_fronts = (refl, refl)

-- a task is done for a code; for a text that is none a fault of names is told
module _ (end : TaskEnd) (Done : Type 0) where
  pub known_code : OfCode end Done (codes "aqua") → Done
  unfolding is_lab_code
  known_code held = held

  pub known_no_code : OfCode end Done (codes "Aqua") → Fault BadName
  unfolding is_lab_code
  known_no_code told = told.0
