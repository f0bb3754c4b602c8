-- Values from outside, so that a wrong rule in the definitions does not check: which versions have a reason.
use Rattle.std.proofs.Common.{refl, ap, true≢false, Some, None}
use Rattle.std.specs.Prelude.{◌==◌, codes}
use Rattle.lab_copy_lines.specs.Fields.{HasReasonUnlessFirst}

-- version 2 has a reason, and version 1 none
pub known_reasons : HasReasonUnlessFirst 1 None × HasReasonUnlessFirst 2 (Some (codes "misread"))
    × (HasReasonUnlessFirst 2 None → ⊥) × (HasReasonUnlessFirst 1 (Some (codes "misread")) → ⊥)
known_reasons = (
  refl,
  λ same. true≢false (ap (λ number. number == 2) same),
  λ same. true≢false (ap (λ number. number == 2) same),
  λ other. other refl,
)
