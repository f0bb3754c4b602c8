-- Signatures (21 CFR 11.50, 11.70 and 11.200(a)): over the record that was looked up and the person
-- whose password was accepted, the first refusal in order, or the signature.
use Rattle.std.specs.Prelude.{ℕ, Bool, true, false, not, ◌&&◌, ◌||◌, ◌==◌, List, [], ◌∷◌, length, Option, Some, None, is_none, Result, Ok, Err, bytes_eq, if◌then◌else◌}
use Rattle.std.specs.Option.{option_map_or}
use Rattle.std.specs.List.{list_any}
use Rattle.lab_forms.specs.declared.forms.Field.{Field}
use Rattle.lab_people_access.specs.declared.persons.Person.{Person}
use Rattle.lab_people_access.specs.declared.sessions.Session.{Session}
use Rattle.lab_seal_versions.specs.declared.rows.EntryRow.{EntryRow}
use Rattle.lab_seal_versions.specs.declared.seals.Meaning.{Meaning}
use Rattle.lab_seal_versions.specs.declared.seals.SealParts.{SealParts}
use Rattle.lab_seal_versions.specs.declared.seals.Meaning.TheVariants.{Authorship as AsAuthor, Review as AsReviewer, Rejection as AsRejection, Approval as AsApproval}
use Rattle.lab_seal_versions.specs.declared.states.State.{State}
use Rattle.lab_seal_versions.specs.declared.states.State.TheVariants.{Open, Signed, Reviewed}
use Rattle.lab_records_kept.specs.declared.records.Record.{Record}
use Rattle.lab_records_kept.specs.declared.records.Version.{Version}
use Rattle.lab_records_kept.specs.declared.records.Signature.{Signature}
use Rattle.lab_records_kept.specs.Lookups.{version_of}
use Rattle.lab_records_kept.specs.Values.{value_of, rows_to, altered_at, has_entered, version_state}
use Rattle.lab_records_kept.specs.Digests.{digest_of, signature_of}
use Rattle.lab_records_kept.specs.Changes.{with_signature}
use Rattle.lab_records_rules.specs.declared.outcomes.SignatureMade.{SignatureMade}
use Rattle.lab_records_rules.specs.declared.outcomes.Signing.{Signing}
use Rattle.lab_records_rules.specs.declared.outcomes.Signing.TheVariants.{Authorship, Review, Rejection, Approval}
use Rattle.lab_records_rules.specs.declared.refusals.Refusal.{Refusal}
use Rattle.lab_records_rules.specs.declared.refusals.Refusal.TheVariants.{NoSuchRecord, NoSuchVersion, ReasonWanted, NothingAltered, EntriesMissing, StaleDigest, AlreadySigned, OwnWork, NotAuthor, NotSigned, ApprovalNotWanted}

-- the first signing of a session wants the code too: without it and without the session's mark, no
-- password is looked at (21 CFR 11.200(a)(1)(i))
abbrev pub is_code_wanted : Session → Option (List ℕ) → Bool
is_code_wanted session code = not session.signed && is_none code

-- ---- refusals, in order

-- an approval that the form doesn't want
abbrev pub approval_refusal : Signing → Bool → Option Refusal
approval_refusal Approval false = Some ApprovalNotWanted
approval_refusal signing approval = None

-- what may be signed in which state
abbrev pub state_refusal : Signing → Option State → Option Refusal
state_refusal Authorship (Some Open) = None
state_refusal Authorship _ = Some AlreadySigned
state_refusal signing (Some Open) = Some NotSigned
state_refusal Review (Some Signed) = None
state_refusal Review _ = Some AlreadySigned
state_refusal Approval (Some Signed) = Some NotSigned
state_refusal Approval (Some Reviewed) = None
state_refusal Approval _ = Some AlreadySigned
state_refusal (Rejection reason) (Some Signed) = None
state_refusal (Rejection reason) (Some Reviewed) = None
state_refusal (Rejection reason) _ = Some AlreadySigned

-- the digest is the one of the version as it is now
abbrev pub digest_refusal : List ℕ → List ℕ → Option Refusal
digest_refusal now digest = if bytes_eq digest now then None else Some (StaleDigest now)

-- the person gave the second signature, the review
abbrev pub is_second : List ℕ → List Signature → Bool
is_second person (author ∷ second ∷ others) = bytes_eq second.person person
is_second person _ = false

-- who signs as the author entered a row of the version; who signs later entered none, and didn't
-- review it either
abbrev pub signer_refusal : Signing → Version → List ℕ → Option Refusal
signer_refusal Authorship version person =
    if has_entered person version then None else Some NotAuthor
signer_refusal signing version person =
    if has_entered person version || is_second person version.signatures then Some OwnWork
    else None

-- a field that the form requires has no value
abbrev pub is_missing : List EntryRow → Field → Bool
is_missing rows field = field.required && is_none (value_of rows field.key)

-- the author signs a version whose required fields have values, and, where it amends another,
-- alters something
abbrev pub content_refusal : Signing → Record → ℕ → Option Refusal
content_refusal Authorship kept number =
    if list_any (is_missing (rows_to number kept)) kept.form.form.fields then Some EntriesMissing
    else (if not (number == 1) && (length (altered_at kept number) == 0) then Some NothingAltered
    else None)
content_refusal signing kept number = None

-- a rejection says why
abbrev pub reason_refusal : Signing → Option Refusal
reason_refusal (Rejection None) = Some ReasonWanted
reason_refusal signing = None

-- the first that holds, of one and of others
abbrev pub or_else : Option Refusal → Option Refusal → Option Refusal
or_else (Some refusal) next = Some refusal
or_else None next = next

-- all of them, of a version
abbrev pub version_refusal : List ℕ → Record → Version → List ℕ → Signing → List ℕ → Option Refusal
version_refusal lab kept version digest signing person =
    or_else (approval_refusal signing kept.form.form.approval)
    (or_else (state_refusal signing (version_state kept version))
    (or_else (digest_refusal (digest_of lab kept version) digest)
    (or_else (signer_refusal signing version person)
    (or_else (content_refusal signing kept version.origin.number)
    (reason_refusal signing)))))

-- ---- where something is made for them

-- the version's text, for its digest: once the form wants the signature, and the state allows it
abbrev pub is_digest_made : Record → Version → Signing → Bool
is_digest_made kept version signing =
    is_none (or_else (approval_refusal signing kept.form.form.approval)
    (state_refusal signing (version_state kept version)))

abbrev pub is_digest_made_at : Option Record → ℕ → Signing → Bool
is_digest_made_at None number signing = false
is_digest_made_at (Some kept) number signing =
    option_map_or (λ version. is_digest_made kept version signing)
    (version_of kept.versions number) false

-- a table of the values, for an authorship alone
abbrev pub is_table_made : Signing → Bool
is_table_made Authorship = true
is_table_made signing = false

-- ---- the signature

-- what it means; a rejection without a reason was refused
abbrev pub signed_meaning : Signing → Meaning
signed_meaning Authorship = AsAuthor
signed_meaning Review = AsReviewer
signed_meaning (Rejection None) = AsRejection []
signed_meaning (Rejection (Some reason)) = AsRejection reason
signed_meaning Approval = AsApproval

-- what its seal covers
abbrev pub signed_parts : List ℕ → Person → Meaning → ℕ → List ℕ → SealParts
signed_parts lab person meaning moment digest = record {
  version = digest;
  lab = lab;
  person = person.code;
  name = person.name;
  meaning = meaning;
  moment = moment;
}

-- the person's signature, with its seal
abbrev pub new_signature : List ℕ → Person → Signing → ℕ → List ℕ → Signature
new_signature lab person signing moment digest =
    signature_of (signed_parts lab person (signed_meaning signing) moment digest)

-- ---- a signing

-- a signature that is given, and its version's state with it
abbrev pub signature_made : Record → Version → Signature → SignatureMade
signature_made kept version signature = record {
  number = kept.number;
  version = version.origin.number;
  signature = signature;
  state = version_state kept (with_signature signature version);
}

abbrev pub signing_version : List ℕ → Record → Option Version → List ℕ → Signing → Person → ℕ
    → Result SignatureMade Refusal
signing_version lab kept None digest signing person moment = Err NoSuchVersion
signing_version lab kept (Some version) digest signing person moment =
    option_map_or Err (version_refusal lab kept version digest signing person.code)
    (Ok (signature_made kept version (new_signature lab person signing moment digest)))

-- a version of a record is signed by the person
abbrev pub signing_record : List ℕ → Option Record → ℕ → List ℕ → Signing → Person → ℕ
    → Result SignatureMade Refusal
signing_record lab None number digest signing person moment = Err NoSuchRecord
signing_record lab (Some kept) number digest signing person moment =
    signing_version lab kept (version_of kept.versions number) digest signing person moment
