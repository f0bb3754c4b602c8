-- Whether a record is under dual control, and whether a laboratory is sound: its test is true exactly where it is.
use Rattle.std.proofs.Common.{◌≡◌, ℕ, Bool, true, false, ◌&&◌, List, [], ◌∷◌, Option, Some, None, Decides, refl}
use Rattle.std.specs.Prelude.{All, IsTrue, IsSome, is_some, MatchOption}
use Rattle.std.specs.List.{list_all}
use Rattle.std.specs.Option.{option_map_or}
use Rattle.std.proofs.Math.Bool.{beq}
use Rattle.std.proofs.lemmas.Bool.{and_parts, and_from}
use Rattle.std.proofs.lemmas.List.Elements.{All-weaker}
use Rattle.lab_seal_versions.specs.declared.versions.Format.{Format}
use Rattle.lab_seal_versions.specs.declared.versions.Format.TheVariants.{One, Two}
use Rattle.lab_seal_versions.specs.declared.states.State.{State}
use Rattle.lab_seal_versions.specs.States.{is_settled as is_settled_state}
use Rattle.lab_records_kept.specs.declared.records.Record.{Record}
use Rattle.lab_records_kept.specs.declared.records.Version.{Version}
use Rattle.lab_records_kept.specs.declared.records.Signature.{Signature}
use Rattle.lab_records_kept.specs.declared.labs.Lab.{Lab}
use Rattle.lab_records_kept.specs.Values.{version_state, has_entered}
use Rattle.lab_records_kept.specs.Bound.{IsBoundRecord, IsBound}
use Rattle.lab_records_kept.specs.Dual.{EnteredNone, ThirdDiffers, AreSigners, SaysOfApproval, IsSignedDually, IsSettled, AreSettledButLast, IsDualRecord, IsDual}
use Rattle.lab_move_tables.specs.Chained.{IsChained, AreChained}
use Rattle.lab_move_tables.specs.Private.Tests.{says_of_approval, entered_none, third_differs, are_signers, is_signed_dually, is_settled, are_settled_after, is_dual_record, is_sound_record}
use Rattle.lab_move_tables.proofs.Decisions.{both, as_said, all_decided, all_decided_where, not_decided, differs_decided}
use Rattle.lab_move_tables.proofs.BoundDecided.{bound_decided}

-- ---- a version

same_flag : (a b : Bool) → Decides (beq a b) (a ≡ b)
same_flag true true = (λ h. refl, λ h. refl)
same_flag true false = (λ h. absurd cc, λ h. absurd cc)
same_flag false true = (λ h. absurd cc, λ h. absurd cc)
same_flag false false = (λ h. refl, λ h. refl)

says_decided : (format : Format) (approval : Bool) → Decides (says_of_approval format approval) (SaysOfApproval format approval)
says_decided One approval = not_decided approval
says_decided (Two said) approval = same_flag said approval

third_decided : (later : List Signature) → Decides (third_differs later) (ThirdDiffers later)
third_decided [] = (λ h. tt, λ h. refl)
third_decided (second ∷ []) = (λ h. tt, λ h. refl)
third_decided (second ∷ third ∷ others) = differs_decided third.person second.person

flag_decided : (b : Bool) → Decides b (IsTrue b)
flag_decided b = (λ h. h, λ h. h)

signers_decided : (version : Version) (signatures : List Signature) → Decides (are_signers version signatures) (AreSigners version signatures)
signers_decided version [] = (λ h. tt, λ h. refl)
signers_decided version (author ∷ later) =
    as_said (both (both (flag_decided (has_entered author.person version))
    (all_decided (entered_none version) (EnteredNone version) (λ one. not_decided (has_entered one.person version)) later)) (third_decided later))
    (λ h. (h.0.0, h.0.1, h.1)) (λ h. ((h.0, h.1), h.2))

some_decided : {A : Type 0} (o : Option A) → Decides (is_some o) (IsSome o)
some_decided o = (λ h. h, λ h. h)

signed_decided : (kept : Record) (version : Version) → Decides (is_signed_dually kept version) (IsSignedDually kept version)
signed_decided kept version =
    as_said (both (both (says_decided version.format kept.form.form.approval) (some_decided (version_state kept version))) (signers_decided version version.signatures))
    (λ h. record { format = h.0.0; state = h.0.1; signers = h.1 }) (λ h. ((h.format, h.state), h.signers))

-- ---- a record

state_decided : (o : Option State) → Decides (option_map_or is_settled_state o false) (MatchOption o ⊥ (λ state. IsTrue (is_settled_state state)))
state_decided None = (λ h. absurd cc, λ h. absurd h)
state_decided (Some state) = (λ h. h, λ h. h)

settled_decided : (kept : Record) (version : Version) → Decides (is_settled kept version) (IsSettled kept version)
settled_decided kept version = state_decided (version_state kept version)

-- what stands before them is settled, and so are all of them but the last
abbrev Begun : Record → Bool → List Version → Type 0
Begun kept before [] = Unit {0}
Begun kept before (one ∷ others) = (before ≡ true) × AreSettledButLast kept (one ∷ others)

begun_decided : (kept : Record) (before : Bool) (versions : List Version) → Decides (are_settled_after kept before versions) (Begun kept before versions)
begun_decided kept before [] = (λ h. tt, λ h. refl)
begun_decided kept before (one ∷ []) = (λ h. ((and_parts before true h).0, tt), λ h. and_from before true h.0 refl)
begun_decided kept before (one ∷ other ∷ others) =
    as_said (both (flag_decided before) (begun_decided kept (is_settled kept one) (other ∷ others)))
    (λ h. (h.0, ((settled_decided kept one).0 h.1.0, h.1.1)))
    (λ h. (h.0, ((settled_decided kept one).1 h.1.0, h.1.1)))

all_settled_decided : (kept : Record) (versions : List Version) → Decides (are_settled_after kept true versions) (AreSettledButLast kept versions)
all_settled_decided kept [] = (λ h. tt, λ h. refl)
all_settled_decided kept (one ∷ others) = as_said (begun_decided kept true (one ∷ others)) (λ h. h.1) (λ h. (refl, h))

pub dual_decided : (kept : Record) → Decides (is_dual_record kept) (IsDualRecord kept)
dual_decided kept =
    as_said (both (all_decided (is_signed_dually kept) (IsSignedDually kept) (signed_decided kept) kept.versions) (all_settled_decided kept kept.versions))
    (λ h. record { signed = h.0; settled = h.1 }) (λ h. (h.signed, h.settled))

-- ---- a laboratory

abbrev IsSoundRecord : List ℕ → Record → Type 0
IsSoundRecord lab kept = IsDualRecord kept × IsBoundRecord lab kept

pub sound_decided : (lab : Lab) → AreChained lab → Decides (list_all (is_sound_record lab.code) lab.records) (IsBound lab × IsDual lab)
sound_decided lab chained =
    as_said (all_decided_where (is_sound_record lab.code) (IsSoundRecord lab.code) (IsChained lab.code) (λ kept one. both (dual_decided kept) (bound_decided lab.code kept one)) lab.records chained)
    (λ h. (All-weaker (IsSoundRecord lab.code) (IsBoundRecord lab.code) (λ kept one. one.1) lab.records h, All-weaker (IsSoundRecord lab.code) IsDualRecord (λ kept one. one.0) lab.records h))
    (λ h k d below. (h.1 k d below, h.0 k d below))
