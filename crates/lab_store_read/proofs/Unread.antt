-- Texts that aren't read: bytes that are none, and those for which a text was refused or memory ran out.
use Rattle.std.proofs.Common.{ℕ, ◌&&◌, Bool, List, IsFalse, refl, IsUtf8}
use Rattle.std.specs.Str.{is_utf8}
use Rattle.std.proofs.lemmas.Bool.{false_from_ne_true}
use Rattle.std.proofs.lemmas.Str.{is_utf8-from_IsUtf8, IsUtf8-from_is_utf8}
use Rattle.lab_forms_texts.specs.Faults.{NameFaultFits}
use Rattle.lab_forms_texts.specs.declared.faults.BadName.{BadName}
use Rattle.lab_forms_texts.specs.declared.refusals.Fault.{Fault}
use Rattle.lab_forms_texts.specs.declared.refusals.Fault.TheVariants.{Refused, Memory}
use Rattle.lab_store_read.specs.Private.Faults.{name_fault}
use Rattle.lab_store_read.specs.Cells.{IsNotMade}

-- a fault that fits what is tried as a text fits it as what stands in a column
pub text_faults : (bytes : List ℕ) (admitted : Bool) (fault : Fault BadName) → IsUtf8 bytes → NameFaultFits admitted fault
    → IsNotMade (is_utf8 bytes && admitted) (name_fault fault)
text_faults bytes admitted (Refused bad) utf8 fits = rw (is_utf8-from_IsUtf8 bytes utf8) fits
text_faults bytes admitted Memory utf8 fits = rw (is_utf8-from_IsUtf8 bytes utf8) fits

pub no_text : (bytes : List ℕ) (admitted : Bool) → ¬ IsUtf8 bytes → IsFalse (is_utf8 bytes && admitted)
no_text bytes admitted broken = rw (false_from_ne_true (is_utf8 bytes) (λ is. broken (IsUtf8-from_is_utf8 bytes is))) refl
