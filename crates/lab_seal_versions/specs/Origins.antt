-- Which version of a record it is, and what it amends (ISO/IEC 17025:2017, 7.5.2): the first
-- version amends none, and every later one the version before.
use Rattle.std.specs.Prelude.{◌≡◌, ◌≢◌, ℕ, ◌==◌, if◌then◌else◌, Option, Some, None}
use Rattle.lab_seal_versions.specs.declared.origins.Amendment.{Amendment}
use Rattle.lab_seal_versions.specs.declared.origins.OriginParts.{OriginParts}

-- the number of a record's first version
abbrev pub first_number : ℕ
first_number = 1

-- the first version amends none, and every other one does
abbrev pub AmendsUnlessFirst : ℕ → Option Amendment → Type 0
AmendsUnlessFirst number None = number ≡ first_number
AmendsUnlessFirst number (Some _) = number ≢ first_number

-- the origin of a later version, where the number is that of one
abbrev pub amending : ℕ → Amendment → Option OriginParts
amending number amendment =
    if number == first_number then None
    else Some (record { number = number; amendment = Some amendment })
