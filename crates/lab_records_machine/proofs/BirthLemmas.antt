-- Births, by what is refused of a founding whichever laboratories there are.
use Rattle.std.proofs.Common.{◌≡◌, ℕ, Bool, true, false, cond, not, List, Option, Some, None, Result, Ok, Err, refl}
use Rattle.lab_forms_texts.specs.declared.tick.Tick.{Tick}
use Rattle.lab_records_kept.specs.declared.labs.Lab.{Lab}
use Rattle.lab_records_machine.specs.declared.births.Founding.{Founding}
use Rattle.lab_records_machine.specs.declared.births.BirthRefusal.{BirthRefusal}
use Rattle.lab_records_machine.specs.declared.births.BirthRefusal.TheVariants.{CodeTaken, BadPassword}
use Rattle.lab_records_machine.specs.Births.{is_code_shared, are_passwords, founding_refusal, born, newborn}

-- a founding's refusal, and its laboratory, by its two tests
abbrev refusal_by : Bool → Bool → Option BirthRefusal
refusal_by shared bad = cond shared (Some CodeTaken) (cond bad (Some BadPassword) None)

abbrev born_by : Bool → Bool → Lab → Result Lab BirthRefusal
born_by shared bad lab = cond shared (Err CodeTaken) (cond bad (Err BadPassword) (Ok lab))

unrefused_by : (shared bad : Bool) (lab : Lab) → refusal_by shared bad ≡ None →
    born_by shared bad lab ≡ Ok lab
unrefused_by true bad lab is = cc
unrefused_by false true lab is = cc
unrefused_by false false lab is = refl

-- a laboratory is born from a founding that isn't refused
pub born_unrefused : (code : List ℕ) (tick : Tick) (founding : Founding) →
    founding_refusal founding ≡ None →
    born None code tick founding ≡ Ok (newborn code tick founding)
born_unrefused code tick founding is =
    unrefused_by (is_code_shared founding) (not (are_passwords founding)) (newborn code tick founding)
    is

refused_by : (shared bad : Bool) (lab : Lab) (refusal : BirthRefusal) →
    refusal_by shared bad ≡ Some refusal → born_by shared bad lab ≡ Err refusal
refused_by true bad lab refusal is = cc
refused_by false true lab refusal is = cc
refused_by false false lab refusal is = cc

-- none is born from one that is
pub born_refused : (code : List ℕ) (tick : Tick) (founding : Founding) (refusal : BirthRefusal) →
    founding_refusal founding ≡ Some refusal → born None code tick founding ≡ Err refusal
born_refused code tick founding refusal is =
    refused_by (is_code_shared founding) (not (are_passwords founding)) (newborn code tick founding)
    refusal is
