-- What was made before a command gave what it was asked for: the table of the rows that an amendment
-- is held against, and the digest that a signature is given for.
use Rattle.std.proofs.Common.{◌≡◌, ℕ, Bool, true, false, List, [], ◌∷◌, length, Option, Some, None, refl, arith}
use Rattle.std.specs.Prelude.{IsTrue, Ok, Err, is_some, is_none, not, ◌&&◌, ◌==◌, if◌then◌else◌}
use Rattle.std.specs.Option.{option_map_or}
use Rattle.std.proofs.lemmas.Bool.Decides.{nat_tests}
use Rattle.lab_people_access.specs.declared.persons.Person.{Person}
use Rattle.lab_records_kept.specs.declared.records.Record.{Record}
use Rattle.lab_records_kept.specs.declared.records.Version.{Version}
use Rattle.lab_records_kept.specs.Lookups.{last_of, version_of}
use Rattle.lab_records_kept.specs.Values.{version_state}
use Rattle.lab_records_rules.specs.declared.items.Item.{Item}
use Rattle.lab_records_rules.specs.declared.outcomes.AmendmentMade.{AmendmentMade}
use Rattle.lab_records_rules.specs.declared.outcomes.SignatureMade.{SignatureMade}
use Rattle.lab_records_rules.specs.declared.outcomes.Signing.{Signing}
use Rattle.lab_records_rules.specs.declared.refusals.Refusal.{Refusal}
use Rattle.lab_records_rules.specs.declared.refusals.Refusal.TheVariants.{AmendmentOpen}
use Rattle.lab_records_versions.specs.Entering.{has_settled, amending_by, amending_of, is_table_made, amending}
use Rattle.lab_records_versions.specs.Signing.{approval_refusal, state_refusal, or_else, is_digest_made, is_digest_made_at, signature_made, new_signature, signing_version, signing_record}

-- by whether the last version is released or rejected
settled_by : (settled : Bool) (lab : List ℕ) (kept : Record) (last : Version)
    (reason : Option (List ℕ)) (altered : List Item) (caller : List ℕ) (moment : ℕ)
    (made : AmendmentMade)
    → (if not settled then Err AmendmentOpen
    else amending_by lab kept last reason altered caller moment) ≡ Ok made
    → IsTrue (settled && is_some reason && not (length altered == 0))
settled_by false lab kept last reason altered caller moment made is = absurd (cc)
settled_by true lab kept last None altered caller moment made is = absurd (cc)
settled_by true lab kept last (Some reason) [] caller moment made is = absurd (cc)
settled_by true lab kept last (Some reason) (one ∷ others) caller moment made is =
    grind (arith, nat_tests)

last_by : (last : Option Version) (lab : List ℕ) (kept : Record) (reason : Option (List ℕ))
    (altered : List Item) (caller : List ℕ) (moment : ℕ) (made : AmendmentMade)
    → amending_of lab kept last reason altered caller moment ≡ Ok made
    → IsTrue (option_map_or (λ version. has_settled (version_state kept version)) last false
    && is_some reason && not (length altered == 0))
last_by None lab kept reason altered caller moment made is = absurd (cc)
last_by (Some last) lab kept reason altered caller moment made is =
    settled_by (has_settled (version_state kept last)) lab kept last reason altered caller moment
    made is

-- a record is amended once its altered values were held against a table
pub table_was_made : (lab : List ℕ) (filed : Option Record) (reason : Option (List ℕ))
    (altered : List Item) (caller : List ℕ) (moment : ℕ) (made : AmendmentMade)
    → amending lab filed reason altered caller moment ≡ Ok made
    → IsTrue (is_table_made filed reason altered)
table_was_made lab None reason altered caller moment made is = absurd (cc)
table_was_made lab (Some kept) reason altered caller moment made is =
    last_by (last_of kept.versions) lab kept reason altered caller moment made is

-- nothing refuses where a value is given, so the first two refusals don't either
first_two : {A : Type 0} (first second others : Option Refusal) (value given : A)
    → option_map_or Err (or_else first (or_else second others)) (Ok value) ≡ Ok given
    → IsTrue (is_none (or_else first second))
first_two (Some refusal) second others value given is = absurd (cc)
first_two None (Some refusal) others value given is = absurd (cc)
first_two None None others value given is = refl

version_by : (found : Option Version) (lab : List ℕ) (kept : Record) (digest : List ℕ)
    (signing : Signing) (person : Person) (moment : ℕ) (made : SignatureMade)
    → signing_version lab kept found digest signing person moment ≡ Ok made
    → IsTrue (option_map_or (λ version. is_digest_made kept version signing) found false)
version_by None lab kept digest signing person moment made is = absurd (cc)
version_by (Some version) lab kept digest signing person moment made is =
    first_two (approval_refusal signing kept.form.form.approval)
    (state_refusal signing (version_state kept version)) _
    (signature_made kept version (new_signature lab person signing moment digest)) made is

-- a version is signed once its own digest was made, to compare it with the one that was seen
pub digest_was_made : (lab : List ℕ) (filed : Option Record) (number : ℕ) (digest : List ℕ)
    (signing : Signing) (person : Person) (moment : ℕ) (made : SignatureMade)
    → signing_record lab filed number digest signing person moment ≡ Ok made
    → IsTrue (is_digest_made_at filed number signing)
digest_was_made lab None number digest signing person moment made is = absurd (cc)
digest_was_made lab (Some kept) number digest signing person moment made is =
    version_by (version_of kept.versions number) lab kept digest signing person moment made is
