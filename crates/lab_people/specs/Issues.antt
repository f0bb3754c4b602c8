-- One-time words: one administrator asks for one for a person, another confirms it, and each is
-- given a half (21 CFR 11.200(a)(3), use by anyone else "requires collaboration of two or more
-- individuals").
use Rattle.std.specs.Prelude.{ℕ, Bool, false, not, List, Option, Some, None, Result, Ok, Err, bytes_eq, if◌then◌else◌}
use Rattle.hex.specs.Hex.{encode_lower}
use Rattle.lab_forms_texts.specs.declared.tick.Tick.{Tick}
use Rattle.lab_seal_hashes.specs.Words.{half_of, salt_of}
use Rattle.lab_seal_hashes.specs.Verifiers.{verifier_of}
use Rattle.lab_seal_hashes.specs.declared.verifiers.VerifierParts.{VerifierParts}
use Rattle.lab_people_access.specs.declared.passwords.Password.TheVariants.{OneTime}
use Rattle.lab_people_access.specs.declared.persons.Person.{Person}
use Rattle.lab_people_access.specs.declared.persons.Ask.{Ask}
use Rattle.lab_people_access.specs.declared.sessions.Closing.TheVariants.{Nothing, All}
use Rattle.lab_people_access.specs.declared.refusals.PeopleRefusal.{PeopleRefusal}
use Rattle.lab_people_access.specs.declared.refusals.PeopleRefusal.TheVariants.{IssueOpen, SamePerson, NoIssue}
use Rattle.lab_people_access.specs.Passwords.{new_rounds}
use Rattle.lab_people_access.specs.Persons.{standing_ask}
use Rattle.lab_people.specs.Accounts.{person_meant, meant_then}
use Rattle.lab_people.specs.declared.issues.Issued.{Issued}

-- the verifier of a half of a one-time word, as it is written, with the tick's salt
abbrev pub half_verifier : Tick → VerifierParts
half_verifier tick = verifier_of (encode_lower (half_of tick.words)) (salt_of tick.words) new_rounds

-- what another than the caller asked for
abbrev pub is_anothers : List ℕ → Option Ask → Bool
is_anothers caller None = false
is_anothers caller (Some ask) = not (bytes_eq ask.asker caller)

-- what the caller asks for
abbrev pub new_ask : List ℕ → Tick → Ask
new_ask caller tick = record { asker = caller; asked = tick.moment; first = half_verifier tick }

-- a person for whom the caller asked
abbrev pub with_ask : List ℕ → Tick → Person → Issued
with_ask caller tick person = record {
  person = record person { ask = Some (new_ask caller tick) };
  half = half_of tick.words;
  closing = Nothing;
}

-- an administrator asks for a one-time word for a person, and is given its first half
unfoldable pub asking : List ℕ → Option Person → Tick → Result Issued PeopleRefusal
asking caller person tick =
    meant_then (person_meant caller person) (λ found.
    if is_anothers caller (standing_ask found.ask tick.moment) then Err IssueOpen
    else Ok (with_ask caller tick found))

-- a person for whom it was confirmed what was asked: the one-time word stands in place of the
-- password
abbrev pub with_one_time_word : Tick → Ask → Person → Issued
with_one_time_word tick ask person = record {
  person = record person {
    password = OneTime ask.first (half_verifier tick) tick.moment;
    ask = None;
  };
  half = half_of tick.words;
  closing = All;
}

-- what comes of it, where something stands that was asked for, or nothing
abbrev pub confirming_of : List ℕ → Tick → Person → Option Ask → Result Issued PeopleRefusal
confirming_of caller tick person None = Err NoIssue
confirming_of caller tick person (Some ask) =
    if bytes_eq ask.asker caller then Err SamePerson else Ok (with_one_time_word tick ask person)

-- an administrator confirms what another asked for, and is given the second half
unfoldable pub confirming : List ℕ → Option Person → Tick → Result Issued PeopleRefusal
confirming caller person tick =
    meant_then (person_meant caller person)
    (λ found. confirming_of caller tick found (standing_ask found.ask tick.moment))
