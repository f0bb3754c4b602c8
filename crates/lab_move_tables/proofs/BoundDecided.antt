-- Whether a record is bound: its test is true exactly where it is.
use Rattle.std.proofs.Common.{ℕ, List, Decides}
use Rattle.lab_records_kept.specs.declared.records.Record.{Record}
use Rattle.lab_records_kept.specs.declared.records.Version.{Version}
use Rattle.lab_records_kept.specs.declared.records.Signature.{Signature}
use Rattle.lab_records_kept.specs.Digests.{digest_of, seal_for}
use Rattle.lab_records_kept.specs.Bound.{IsBoundTo, IsSealed, IsBoundRecord}
use Rattle.lab_move_tables.specs.Chained.{IsChained}
use Rattle.lab_move_tables.specs.Private.Tests.{is_bound_by, is_bound_record, is_sealed}
use Rattle.lab_move_tables.proofs.Decisions.{both, as_said, all_decided, texts_decided}

bound_to_decided : (lab : List ℕ) (kept : Record) (version : Version) (signature : Signature) → Decides (is_bound_by lab (digest_of lab kept version) signature) (IsBoundTo lab kept version signature)
bound_to_decided lab kept version signature =
    as_said (both (texts_decided signature.digest (digest_of lab kept version)) (texts_decided signature.seal (seal_for lab signature)))
    (λ h. record { digest = h.0; seal = h.1 }) (λ h. (h.digest, h.seal))

sealed_decided : (lab : List ℕ) (kept : Record) (version : Version) → Decides (is_sealed lab kept version) (IsSealed lab kept version)
sealed_decided lab kept version = all_decided (is_bound_by lab (digest_of lab kept version)) (IsBoundTo lab kept version) (bound_to_decided lab kept version) version.signatures

pub bound_decided : (lab : List ℕ) (kept : Record) → IsChained lab kept → Decides (is_bound_record lab kept) (IsBoundRecord lab kept)
bound_decided lab kept chained =
    as_said (all_decided (is_sealed lab kept) (IsSealed lab kept) (sealed_decided lab kept) kept.versions)
    (λ h. record { signatures = h; chain = chained }) (λ h. h.signatures)
