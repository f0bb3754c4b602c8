-- Values from outside, so that a wrong rule in the definitions does not check: the rows of docs/REFUSALS.md.
use Rattle.std.proofs.Common.{◌≡◌, refl, codes}
use Rattle.lab_forms_texts.specs.Faults.{fault_entry}
use Rattle.lab_forms_texts.specs.declared.refusals.Fault.TheVariants.{Refused, Memory}
use Rattle.lab_seal.specs.Faults.{text_entry}
use Rattle.lab_seal.specs.declared.faults.BadText.{BadText}

pub known_faults : (fault_entry {R = BadText} (λ _. text_entry) (Refused (record {})) ≡ record { number = 11; word = codes "bad_text" })
    × (fault_entry {R = BadText} (λ _. text_entry) Memory ≡ record { number = 90; word = codes "memory" })
known_faults = (refl, refl)
