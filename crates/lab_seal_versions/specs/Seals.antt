-- The seal of a signature: the SHA-256 (FIPS 180-4) of seven items: what was signed, by whom, as
-- what, when and why (21 CFR 11.50 and 11.70). How they are written is this system's own
-- (docs/VERSIONS.md).
use Rattle.std.specs.Prelude.{ℕ, List, [], ◌++◌, codes}
use Rattle.hex.specs.Hex.{encode_lower}
use Rattle.sha2.specs.Sha256.{sha256}
use Rattle.lab_forms_texts.specs.Moment.{moment_text}
use Rattle.lab_seal_versions.specs.Versions.{item}
use Rattle.lab_seal_versions.specs.declared.seals.Meaning.{Meaning}
use Rattle.lab_seal_versions.specs.declared.seals.Meaning.TheVariants.{Authorship, Review, Rejection, Approval}
use Rattle.lab_seal_versions.specs.declared.seals.SealParts.{SealParts}

-- the word of a meaning
abbrev pub meaning_word : Meaning → List ℕ
meaning_word Authorship = codes "authorship"
meaning_word Review = codes "review"
meaning_word (Rejection _) = codes "rejection"
meaning_word Approval = codes "approval"

-- the reason, which only a rejection has
abbrev pub meaning_reason : Meaning → List ℕ
meaning_reason Authorship = []
meaning_reason Review = []
meaning_reason (Rejection reason) = reason
meaning_reason Approval = []

-- what is signed, and by whom: the version's digest, the laboratory, the person's code and printed
-- name
unfoldable pub signer_text : SealParts → List ℕ
signer_text parts =
    item (encode_lower parts.version) ++ item parts.lab ++ item parts.person ++ item parts.name

-- the meaning, the moment and the reason
unfoldable pub signing_text : SealParts → List ℕ
signing_text parts =
    item (meaning_word parts.meaning) ++ item (moment_text parts.moment)
    ++ item (meaning_reason parts.meaning)

-- the text of a seal
unfoldable pub seal_text : SealParts → List ℕ
seal_text parts = signer_text parts ++ signing_text parts

-- the seal
abbrev pub seal_of : SealParts → List ℕ
seal_of parts = sha256 (seal_text parts)
