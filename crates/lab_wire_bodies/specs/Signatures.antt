-- The body of a signature. Only a rejection may have a reason (21 CFR 11.50 asks for the meaning).
use Rattle.std.specs.Prelude.{ℕ, List, [], ◌∷◌, ◌++◌, Bool, false, bytes_eq, find, codes, Option, option_and_then, Ok}
use Rattle.std.specs.Option.{option_map_or}
use Rattle.serde_json.specs.Data.{Data}
use Rattle.serde_json.specs.Find.{as_str}
use Rattle.lab_forms_texts.specs.Names.{is_note, is_person_code}
use Rattle.lab_seal_versions.specs.declared.seals.Meaning.{Meaning}
use Rattle.lab_seal_versions.specs.declared.seals.Meaning.TheVariants as meaning
use Rattle.lab_seal_versions.specs.Seals.{meaning_word}
use Rattle.lab_records_rules.specs.declared.outcomes.Signing.{Signing}
use Rattle.lab_records_rules.specs.declared.outcomes.Signing.TheVariants as signing
use Rattle.lab_records_machine.specs.declared.commands.Command.{Command}
use Rattle.lab_records_machine.specs.declared.commands.Command.TheVariants.{In}
use Rattle.lab_records_machine.specs.declared.commands.SessionCommand.TheVariants.{OnRecord}
use Rattle.lab_records_machine.specs.declared.commands.RecordCommand.TheVariants.{Sign}
use Rattle.lab_wire_members.specs.declared.members.MemberKind.TheVariants.{Text, Ordinal, Digest}
use Rattle.lab_wire_bodies.specs.declared.signatures.Meant.{Meant}
use Rattle.lab_wire_bodies.specs.declared.signatures.Meant.TheVariants.{Authorship, Review, Rejection, Approval}
use Rattle.lab_wire_members.specs.Members.{MemberRule, must, may, has_members, at, ordinal_in, digest_in}
use Rattle.lab_wire_members.specs.Readings.{Reading, then_read, wanted, text_at, named_if_at, shaped}

-- a meaning with nothing beside it: the reason stands at a name of its own
abbrev pub bare_meaning_of : Meant → Meaning
bare_meaning_of Authorship = meaning.Authorship
bare_meaning_of Review = meaning.Review
bare_meaning_of Rejection = meaning.Rejection []
bare_meaning_of Approval = meaning.Approval

-- its word
abbrev pub meant_word : Meant → List ℕ
meant_word meant = meaning_word (bare_meaning_of meant)

abbrev pub all_meant : List Meant
all_meant = Authorship ∷ Review ∷ Rejection ∷ Approval ∷ []

-- the meaning that a word names
abbrev pub names_meant : List ℕ → Meant → Bool
names_meant word meant = bytes_eq (meant_word meant) word

abbrev pub meant_of : List ℕ → Option Meant
meant_of word = find (names_meant word) all_meant

abbrev pub meant_in : Data → Option Meant
meant_in d = option_and_then meant_of (at as_str (codes "meaning") d)

-- what a signature of every meaning has
abbrev pub members_of_every_signature : List MemberRule
members_of_every_signature =
    must (codes "record") Ordinal ∷ must (codes "version") Ordinal ∷ must (codes "digest") Digest
    ∷ must (codes "meaning") Text ∷ must (codes "password") Text ∷ may (codes "code") Text ∷ []

-- and what it has of its meaning
abbrev pub meant_members : Meant → List MemberRule
meant_members Authorship = []
meant_members Review = []
meant_members Rejection = may (codes "reason") Text ∷ []
meant_members Approval = []

abbrev pub signature_members : Meant → List MemberRule
signature_members meant = members_of_every_signature ++ meant_members meant

unfoldable pub is_signature_body : Data → Bool
is_signature_body d =
    option_map_or (λ meant. has_members (signature_members meant) d) (meant_in d) false

-- what is signed as
abbrev pub signing_read : Meant → Data → Reading Signing
signing_read Authorship d = Ok signing.Authorship
signing_read Review d = Ok signing.Review
signing_read Rejection d =
    then_read (named_if_at is_note (codes "reason") d) (λ reason. Ok (signing.Rejection reason))
signing_read Approval d = Ok signing.Approval

-- who signs, and as what, behind what is signed
abbrev pub signature_by : ℕ → ℕ → List ℕ → Meant → Data → Reading Command
signature_by number version digest meant d =
    then_read (text_at (codes "password") d) (λ password.
    then_read (named_if_at is_person_code (codes "code") d) (λ code.
    then_read (signing_read meant d) (λ signing.
    Ok (In (OnRecord (Sign number version digest signing password code))))))

unfoldable pub signature_read : Data → Reading Command
signature_read d =
    then_read (wanted (at ordinal_in (codes "record") d)) (λ number.
    then_read (wanted (at ordinal_in (codes "version") d)) (λ version.
    then_read (wanted (at digest_in (codes "digest") d)) (λ digest.
    then_read (wanted (meant_in d)) (λ meant.
    signature_by number version digest meant d))))

unfoldable pub signature_named : Data → Reading Command
signature_named d = shaped (is_signature_body d) (signature_read d)
