-- The state of a version, read off the meanings of its signatures (ISO/IEC 17025:2017, 7.8.1.1:
-- results are reviewed and authorised before they are released). Whether an approval is wanted is
-- said by the form that the record is filled in by.
use Rattle.std.specs.Prelude.{ℕ, Bool, true, false, List, [], ◌∷◌, codes, Option, Some, None}
use Rattle.lab_seal_versions.specs.declared.seals.Meaning.{Meaning}
use Rattle.lab_seal_versions.specs.declared.seals.Meaning.TheVariants.{Authorship, Review, Rejection, Approval}
use Rattle.lab_seal_versions.specs.declared.states.State.{State}
use Rattle.lab_seal_versions.specs.declared.states.State.TheVariants.{Open, Signed, Reviewed, Released, Rejected}

-- the word of a state
abbrev pub state_word : State → List ℕ
state_word Open = codes "open"
state_word Signed = codes "signed"
state_word Reviewed = codes "reviewed"
state_word Released = codes "released"
state_word Rejected = codes "rejected"

-- nothing more is signed in a version that is released or rejected
abbrev pub is_settled : State → Bool
is_settled Open = false
is_settled Signed = false
is_settled Reviewed = false
is_settled Released = true
is_settled Rejected = true

-- the state by the signatures, in order, and whether an approval is wanted; no version has other
-- signatures
abbrev pub state_of : List Meaning → Bool → Option State
state_of [] approval = Some Open
state_of (Authorship ∷ []) approval = Some Signed
state_of (Authorship ∷ Review ∷ []) false = Some Released
state_of (Authorship ∷ Review ∷ []) true = Some Reviewed
state_of (Authorship ∷ Rejection _ ∷ []) approval = Some Rejected
state_of (Authorship ∷ Review ∷ Approval ∷ []) true = Some Released
state_of (Authorship ∷ Review ∷ Rejection _ ∷ []) true = Some Rejected
state_of _ _ = None
