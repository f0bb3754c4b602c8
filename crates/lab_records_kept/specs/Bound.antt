-- A laboratory whose signatures are bound to what they sign (21 CFR 11.70, "linked to their
-- respective electronic records to ensure that the signatures cannot be excised, copied, or
-- otherwise transferred to falsify an electronic record by ordinary means"), and whose versions are
-- bound to those that they amend (ISO/IEC 17025:2017, 7.5.2, "amendments to technical records can
-- be tracked to previous versions").
use Rattle.std.specs.Prelude.{◌≡◌, ℕ, List, [], ◌∷◌, All, Option, Some, None}
use Rattle.lab_records_kept.specs.declared.records.Record.{Record}
use Rattle.lab_records_kept.specs.declared.records.Version.{Version}
use Rattle.lab_records_kept.specs.declared.records.Signature.{Signature}
use Rattle.lab_records_kept.specs.declared.labs.Lab.{Lab}
use Rattle.lab_records_kept.specs.Digests.{previous_of, digest_of, seal_for}

-- a signature names the digest of its version as it is now, and its seal recomputes
pub record IsBoundTo (lab : List ℕ) (kept : Record) (version : Version) (signature : Signature)
    : Type 0 where
  pub digest : signature.digest ≡ digest_of lab kept version
  pub seal : signature.seal ≡ seal_for lab signature

-- every signature of a version is bound to it
abbrev pub IsSealed : List ℕ → Record → Version → Type 0
IsSealed lab kept version = All (IsBoundTo lab kept version) version.signatures

-- each version amends the one before it as it is now, and the first of them what the digest says
abbrev pub IsChain : List ℕ → Record → Option (List ℕ) → List Version → Type 0
IsChain lab kept before [] = Unit {0}
IsChain lab kept before (one ∷ others) =
    (previous_of one ≡ before) × IsChain lab kept (Some (digest_of lab kept one)) others

-- the signatures and the versions of a record are bound
pub record IsBoundRecord (lab : List ℕ) (kept : Record) : Type 0 where
  pub signatures : All (IsSealed lab kept) kept.versions
  pub chain : IsChain lab kept None kept.versions

-- and so they are of every record of a laboratory
abbrev pub IsBound : Lab → Type 0
IsBound lab = All (IsBoundRecord lab.code) lab.records
