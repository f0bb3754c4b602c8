-- The tests that decide whether a record is bound, and whether it is under dual control (21 CFR
-- 11.70; ISO/IEC 17025:2017, 7.5.1): each test is true exactly where what `Bound` and `Dual` of
-- `lab_records_kept` say is so.
use Rattle.std.specs.Prelude.{ℕ, Bool, true, false, not, ◌&&◌, List, [], ◌∷◌, is_some, bytes_eq}
use Rattle.std.specs.List.{list_all}
use Rattle.std.specs.Option.{option_map_or}
use Rattle.std.proofs.Math.Bool.{beq}
use Rattle.lab_seal_versions.specs.declared.versions.Format.{Format}
use Rattle.lab_seal_versions.specs.declared.versions.Format.TheVariants.{One, Two}
use Rattle.lab_seal_versions.specs.States.{is_settled as is_settled_state}
use Rattle.lab_records_kept.specs.declared.records.Record.{Record}
use Rattle.lab_records_kept.specs.declared.records.Version.{Version}
use Rattle.lab_records_kept.specs.declared.records.Signature.{Signature}
use Rattle.lab_records_kept.specs.Digests.{digest_of, seal_for}
use Rattle.lab_records_kept.specs.Values.{version_state, has_entered}

-- ---- bound

-- a signature names the digest, and its seal recomputes
abbrev pub is_bound_by : List ℕ → List ℕ → Signature → Bool
is_bound_by lab digest signature =
    bytes_eq signature.digest digest && bytes_eq signature.seal (seal_for lab signature)

-- those of a version do
abbrev pub is_sealed : List ℕ → Record → Version → Bool
is_sealed lab kept version = list_all (is_bound_by lab (digest_of lab kept version)) version.signatures

-- and those of all versions of a record, in which each names the digest of the one before it
abbrev pub is_bound_record : List ℕ → Record → Bool
is_bound_record lab kept = list_all (is_sealed lab kept) kept.versions

-- ---- under dual control

abbrev pub says_of_approval : Format → Bool → Bool
says_of_approval One approval = not approval
says_of_approval (Two said) approval = beq said approval

abbrev pub entered_none : Version → Signature → Bool
entered_none version signature = not (has_entered signature.person version)

abbrev pub third_differs : List Signature → Bool
third_differs (second ∷ third ∷ others) = not (bytes_eq third.person second.person)
third_differs _ = true

abbrev pub are_signers : Version → List Signature → Bool
are_signers version [] = true
are_signers version (author ∷ later) =
    has_entered author.person version && list_all (entered_none version) later
    && third_differs later

abbrev pub is_signed_dually : Record → Version → Bool
is_signed_dually kept version =
    says_of_approval version.format kept.form.form.approval && is_some (version_state kept version)
    && are_signers version version.signatures

abbrev pub is_settled : Record → Version → Bool
is_settled kept version = option_map_or is_settled_state (version_state kept version) false

-- each version that another follows is settled, and so is what stands before the first
abbrev pub are_settled_after : Record → Bool → List Version → Bool
are_settled_after kept before [] = true
are_settled_after kept before (one ∷ others) =
    before && are_settled_after kept (is_settled kept one) others

abbrev pub is_dual_record : Record → Bool
is_dual_record kept =
    list_all (is_signed_dually kept) kept.versions && are_settled_after kept true kept.versions

-- ---- both

abbrev pub is_sound_record : List ℕ → Record → Bool
is_sound_record lab kept = is_dual_record kept && is_bound_record lab kept
