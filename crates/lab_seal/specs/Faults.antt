-- The numbers and words by which the interface tells why bytes are no version's text
-- (docs/REFUSALS.md).
use Rattle.std.specs.Prelude.{codes}
use Rattle.lab_forms_texts.specs.Faults.{Entry}
use Rattle.lab_forms_texts.specs.declared.refusals.Fault.{Fault}
use Rattle.lab_forms_texts.specs.declared.refusals.Fault.TheVariants.{Refused, Memory}
use Rattle.lab_seal.specs.declared.faults.BadText.{BadText}

abbrev pub text_entry : Entry
text_entry = record { number = 11; word = codes "bad_text" }

-- a reader's fault: the text is a bad one, or memory ran out for a good one
abbrev pub TextFaultFits : Type 0 → Type 0 → Fault BadText → Type 0
TextFaultFits bad good (Refused _) = bad
TextFaultFits bad good Memory = good
