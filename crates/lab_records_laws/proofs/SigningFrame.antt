-- What holds of each record of a laboratory stays through a step, where it stays through what the
-- rules make of records: no other case looks at records.
use Rattle.std.proofs.Common.{◌≡◌, ℕ, Bool, true, false, cond, List, [], ◌∷◌, length, Option, Some, None, refl, sym, ap}
use Rattle.std.specs.Prelude.{All, Result, Ok, Err, find, nat_le, not, ◌&&◌, is_none}
use Rattle.lab_people_access.specs.declared.refusals.PeopleRefusal.TheVariants.{LabFull}
use Rattle.lab_records_rules.specs.declared.refusals.Refusal.TheVariants.{People, ReasonWanted}
use Rattle.lab_records_kept.specs.Limits.{row_limit, record_limit}
use Rattle.std.specs.Option.{option_map_or}
use Rattle.std.proofs.lemmas.Bool.{eqb-true}
use Rattle.std.proofs.lemmas.List.Elements.{All-cons, All-head, All-tail, All-weaker}
use Rattle.lab_people_access.specs.declared.persons.Person.{Person}
use Rattle.lab_seal_versions.specs.declared.rows.EntryRow.{EntryRow}
use Rattle.lab_seal_versions.specs.declared.states.State.{State}
use Rattle.lab_seal_versions.specs.declared.states.State.TheVariants.{Open as IsOpen, Signed, Reviewed, Released, Rejected}
use Rattle.lab_records_kept.specs.declared.labs.Lab.{Lab}
use Rattle.lab_records_kept.specs.declared.records.FormVersion.{FormVersion}
use Rattle.lab_records_kept.specs.declared.records.Record.{Record}
use Rattle.lab_records_kept.specs.declared.records.Version.{Version}
use Rattle.lab_records_kept.specs.Lookups.{last_of, version_of, has_number, is_numbered, record_of}
use Rattle.lab_records_kept.specs.Values.{version_state}
use Rattle.lab_records_kept.specs.Changes.{in_record, in_version, entered_in, opened_in, signed_in}
use Rattle.lab_records_rules.specs.declared.items.Item.{Item}
use Rattle.lab_records_rules.specs.declared.outcomes.EntryMade.{EntryMade}
use Rattle.lab_records_rules.specs.declared.outcomes.AmendmentMade.{AmendmentMade}
use Rattle.lab_records_rules.specs.declared.outcomes.SignatureMade.{SignatureMade}
use Rattle.lab_records_rules.specs.declared.outcomes.Signing.{Signing}
use Rattle.lab_records_rules.specs.declared.refusals.Refusal.{Refusal}
use Rattle.lab_records_rules.specs.Making.{new_record, opening_new, opening_record}
use Rattle.lab_records_versions.specs.Entering.{has_value, is_open, has_settled, entering, entering_of, entry_made, entered_row, amending, amending_of, amending_by, amendment_made, next_version}
use Rattle.lab_records_versions.specs.Signing.{version_refusal, new_signature, signing_version, signing_record, signature_made}
use Rattle.lab_records_machine.specs.Machine.{step}

-- ---- lists

-- what is found passes the test
passes_if : {X : Type 0} (test : X → Bool) (one x : X) (later : Option X) (passes : Bool)
    → test one ≡ passes → cond passes (Some one) later ≡ Some x
    → (later ≡ Some x → test x ≡ true) → test x ≡ true
passes_if test one x later true is found more =
    let same : one ≡ x = cc in
    rw (← same) is
passes_if test one x later false is found more = more found

pub found_passes : {X : Type 0} (test : X → Bool) (xs : List X) (x : X) → find test xs ≡ Some x
    → test x ≡ true
found_passes test [] x found = absurd (cc)
found_passes test (one ∷ others) x found =
    passes_if test one x (find test others) (test one) refl found (found_passes test others x)

-- one of two, the first of them changed
pub changed_if : {X : Type 0} (Old New : X → Type 0) (next : X → X) (x one : X)
    (others changed : List X) (later : Option X) (passes : Bool)
    → cond passes (Some one) later ≡ Some x → (Old x → New (next x)) → ((y : X) → Old y → New y)
    → All Old (one ∷ others) → (later ≡ Some x → All New changed) → All New others
    → All New (cond passes (next one ∷ others) (one ∷ changed))
changed_if Old New next x one others changed later true found step same all more rest =
    let is : one ≡ x = cc in
    All-cons New (next one) others
    (rw is (step (rw is at (All-head Old one others all)))) rest
changed_if Old New next x one others changed later false found step same all more rest =
    All-cons New one changed (same one (All-head Old one others all)) (more found)

-- the record of a number is changed, all others stay
pub each_in_record : (Holds : Record → Type 0) (number : ℕ) (next : Record → Record)
    (kept : Record) (records : List Record) → record_of records number ≡ Some kept
    → (Holds kept → Holds (next kept)) → All Holds records
    → All Holds (in_record number next records)
each_in_record Holds number next kept [] found step all = absurd (cc)
each_in_record Holds number next kept (one ∷ others) found step all =
    changed_if Holds Holds next kept one others (in_record number next others)
    (record_of others number) (has_number number one) found step (λ y holds. holds) all
    (λ later. each_in_record Holds number next kept others later step
    (All-tail Holds one others all))
    (All-tail Holds one others all)

-- and so it is with the version of a number
pub each_in_version : (Old New : Version → Type 0) (number : ℕ) (next : Version → Version)
    (version : Version) (versions : List Version) → version_of versions number ≡ Some version
    → (Old version → New (next version)) → ((y : Version) → Old y → New y) → All Old versions
    → All New (in_version number next versions)
each_in_version Old New number next version [] found step same all = absurd (cc)
each_in_version Old New number next version (one ∷ others) found step same all =
    changed_if Old New next version one others (in_version number next others)
    (version_of others number) (is_numbered number one) found step same all
    (λ later. each_in_version Old New number next version others later step same
    (All-tail Old one others all))
    (All-weaker Old New same others (All-tail Old one others all))

-- the number is the record's own, and the version's
pub number_found : (records : List Record) (number : ℕ) (kept : Record)
    → record_of records number ≡ Some kept → kept.number ≡ number
number_found records number kept found =
    eqb-true kept.number number (found_passes (has_number number) records kept found)

pub version_found : (versions : List Version) (number : ℕ) (version : Version)
    → version_of versions number ≡ Some version → version.origin.number ≡ number
version_found versions number version found =
    eqb-true version.origin.number number
    (found_passes (is_numbered number) versions version found)

-- a record with other versions: it is filled in by the same form, and its texts say the same of it
abbrev pub with_versions : Record → List Version → Record
with_versions kept versions = record kept { versions = versions }

-- ---- what is asked of the rules

-- what holds of each record of a laboratory
abbrev pub OfEach : (List ℕ → Record → Type 0) → Lab → Type 0
OfEach Holds lab = All (Holds lab.code) lab.records

-- it holds of a record as it is opened, and stays where a row is entered, where a version is
-- opened and where one is signed
pub record StaysTrue (Holds : List ℕ → Record → Type 0) : Type 0 where
  pub opened : (lab : List ℕ) (form : FormVersion) (sample caller : List ℕ) (moment records : ℕ)
      → Holds lab (new_record form sample caller moment records)
  pub entered : (lab : List ℕ) (kept : Record) (version : Version) (row : EntryRow)
      → last_of kept.versions ≡ Some version → version_state kept version ≡ Some IsOpen
      → Holds lab kept → Holds lab (entered_in row kept)
  pub amended : (lab : List ℕ) (kept : Record) (last : Version) (reason : List ℕ)
      (altered : List Item) (caller : List ℕ) (moment : ℕ)
      → last_of kept.versions ≡ Some last → has_settled (version_state kept last) ≡ true
      → Holds lab kept
      → Holds lab (opened_in (next_version lab kept last reason altered caller moment) kept)
  pub signed : (lab : List ℕ) (kept : Record) (version : Version) (number : ℕ) (digest : List ℕ)
      (signing : Signing) (person : Person) (moment : ℕ)
      → version_of kept.versions number ≡ Some version
      → version_refusal lab kept version digest signing person.code ≡ None → Holds lab kept
      → Holds lab (signed_in number (new_signature lab person signing moment digest) kept)

-- ---- what the rules say where they refuse nothing

-- what is made is told as it is
abbrev accepts : {A : Type 0} → A → Result A Refusal
accepts value = Ok value

pub same_ok : {A : Type 0} (one other : A) → accepts one ≡ accepts other → one ≡ other
same_ok one other is = cc

-- a refusal wasn't given
pub not_refused : {A : Type 0} (test : Bool) (refusal : Refusal) (rest : Result A Refusal)
    (answer : A)
    → cond test (Err refusal) rest ≡ Ok answer → (test ≡ false) × (rest ≡ Ok answer)
not_refused true refusal rest answer is = absurd (cc)
not_refused false refusal rest answer is = (refl, is)

pub no_refusal : {A : Type 0} (found : Option Refusal) (rest : Result A Refusal) (answer : A)
    → option_map_or Err found rest ≡ Ok answer → (found ≡ None) × (rest ≡ Ok answer)
no_refusal (Some refusal) rest answer is = absurd (cc)
no_refusal None rest answer is = (refl, is)

pub open_is : (state : Option State) → not (is_open state) ≡ false → state ≡ Some IsOpen
open_is None is = absurd (cc)
open_is (Some IsOpen) is = refl
open_is (Some Signed) is = absurd (cc)
open_is (Some Reviewed) is = absurd (cc)
open_is (Some Released) is = absurd (cc)
open_is (Some Rejected) is = absurd (cc)

pub settled_is : (test : Bool) → not test ≡ false → test ≡ true
settled_is true is = refl
settled_is false is = absurd (cc)

-- an entry: the record that was found, and its last version, which is open
pub record IsEntry (found : Option Record) (answer : EntryMade) : Type 0 where
  pub kept : Record
  pub version : Version
  pub record_is : found ≡ Some kept
  pub last : last_of kept.versions ≡ Some version
  pub is_so : version_state kept version ≡ Some IsOpen
  pub number : answer.number ≡ kept.number

entry_of : (lab : List ℕ) (kept : Record) (last : Option Version) (item : Item)
    (reason : Option (List ℕ)) (caller : List ℕ) (moment : ℕ) (answer : EntryMade)
    → last_of kept.versions ≡ last
    → entering_of lab kept last item reason caller moment ≡ Ok answer → IsEntry (Some kept) answer
entry_of lab kept None item reason caller moment answer last is = absurd (cc)
entry_of lab kept (Some version) item reason caller moment answer last is =
    let opened_is = not_refused _ _ _ _ is in
    let item_taken = no_refusal _ _ _ opened_is.1 in
    let reason_given = not_refused (has_value kept item.key && is_none reason) ReasonWanted _ _
    item_taken.1 in
    let room = not_refused (nat_le row_limit (length version.rows)) (People LabFull) _ _
    reason_given.1 in
    let given = same_ok (entry_made lab kept version (entered_row item reason caller moment)) answer
    room.1 in
    record {
      kept = kept;
      version = version;
      record_is = refl;
      last = last;
      is_so = open_is (version_state kept version) opened_is.0;
      number = ap (λ (one : EntryMade). one.number) (sym given);
    }

pub entry_said : (lab : List ℕ) (found : Option Record) (item : Item) (reason : Option (List ℕ))
    (caller : List ℕ) (moment : ℕ) (answer : EntryMade)
    → entering lab found item reason caller moment ≡ Ok answer → IsEntry found answer
entry_said lab None item reason caller moment answer is = absurd (cc)
entry_said lab (Some kept) item reason caller moment answer is =
    entry_of lab kept (last_of kept.versions) item reason caller moment answer refl is

-- an amendment: the same, and its last version has settled
pub record IsAmendment (lab : List ℕ) (found : Option Record) (altered : List Item)
    (caller : List ℕ) (moment : ℕ) (answer : AmendmentMade) : Type 0 where
  pub kept : Record
  pub version : Version
  pub reason : List ℕ
  pub record_is : found ≡ Some kept
  pub last : last_of kept.versions ≡ Some version
  pub settled : has_settled (version_state kept version) ≡ true
  pub number : answer.number ≡ kept.number
  pub next : answer.version ≡ next_version lab kept version reason altered caller moment

amendment_by : (lab : List ℕ) (kept : Record) (version : Version) (reason : Option (List ℕ))
    (altered : List Item) (caller : List ℕ) (moment : ℕ) (answer : AmendmentMade)
    → last_of kept.versions ≡ Some version → has_settled (version_state kept version) ≡ true
    → amending_by lab kept version reason altered caller moment ≡ Ok answer
    → IsAmendment lab (Some kept) altered caller moment answer
amendment_by lab kept version None altered caller moment answer last settled is = absurd (cc)
amendment_by lab kept version (Some reason) [] caller moment answer last settled is = absurd (cc)
amendment_by lab kept version (Some reason) (one ∷ others) caller moment answer last settled is =
    let altered_taken = no_refusal _ _ _ is in
    let room = not_refused _ _ _ _ altered_taken.1 in
    let given = same_ok (amendment_made lab kept
    (next_version lab kept version reason (one ∷ others) caller moment)) answer room.1 in
    record {
      kept = kept;
      version = version;
      reason = reason;
      record_is = refl;
      last = last;
      settled = settled;
      number = ap (λ (one : AmendmentMade). one.number) (sym given);
      next = ap (λ (one : AmendmentMade). one.version) (sym given);
    }

amendment_of : (lab : List ℕ) (kept : Record) (last : Option Version) (reason : Option (List ℕ))
    (altered : List Item) (caller : List ℕ) (moment : ℕ) (answer : AmendmentMade)
    → last_of kept.versions ≡ last
    → amending_of lab kept last reason altered caller moment ≡ Ok answer
    → IsAmendment lab (Some kept) altered caller moment answer
amendment_of lab kept None reason altered caller moment answer last is = absurd (cc)
amendment_of lab kept (Some version) reason altered caller moment answer last is =
    let settled = not_refused _ _ _ _ is in
    amendment_by lab kept version reason altered caller moment answer last
    (settled_is (has_settled (version_state kept version)) settled.0) settled.1

pub amendment_said : (lab : List ℕ) (found : Option Record) (reason : Option (List ℕ))
    (altered : List Item) (caller : List ℕ) (moment : ℕ) (answer : AmendmentMade)
    → amending lab found reason altered caller moment ≡ Ok answer
    → IsAmendment lab found altered caller moment answer
amendment_said lab None reason altered caller moment answer is = absurd (cc)
amendment_said lab (Some kept) reason altered caller moment answer is =
    amendment_of lab kept (last_of kept.versions) reason altered caller moment answer refl is

-- a signature: the record and the version that were found, and no refusal
pub record IsSignature (lab : List ℕ) (found : Option Record) (number : ℕ) (digest : List ℕ)
    (signing : Signing) (person : Person) (moment : ℕ) (answer : SignatureMade) : Type 0 where
  pub kept : Record
  pub version : Version
  pub record_is : found ≡ Some kept
  pub version_is : version_of kept.versions number ≡ Some version
  pub taken : version_refusal lab kept version digest signing person.code ≡ None
  pub number_is : answer.number ≡ kept.number
  pub signed_is : answer.version ≡ version.origin.number
  pub signature_is : answer.signature ≡ new_signature lab person signing moment digest

signature_of_version : (lab : List ℕ) (kept : Record) (found : Option Version) (number : ℕ)
    (digest : List ℕ) (signing : Signing) (person : Person) (moment : ℕ) (answer : SignatureMade)
    → version_of kept.versions number ≡ found
    → signing_version lab kept found digest signing person moment ≡ Ok answer
    → IsSignature lab (Some kept) number digest signing person moment answer
signature_of_version lab kept None number digest signing person moment answer found is = absurd (cc)
signature_of_version lab kept (Some version) number digest signing person moment answer found is =
    let taken = no_refusal _ _ _ is in
    let given = same_ok
    (signature_made kept version (new_signature lab person signing moment digest)) answer
    taken.1 in
    record {
      kept = kept;
      version = version;
      record_is = refl;
      version_is = found;
      taken = taken.0;
      number_is = ap (λ (one : SignatureMade). one.number) (sym given);
      signed_is = ap (λ (one : SignatureMade). one.version) (sym given);
      signature_is = ap (λ (one : SignatureMade). one.signature) (sym given);
    }

pub signature_said : (lab : List ℕ) (found : Option Record) (number : ℕ) (digest : List ℕ)
    (signing : Signing) (person : Person) (moment : ℕ) (answer : SignatureMade)
    → signing_record lab found number digest signing person moment ≡ Ok answer
    → IsSignature lab found number digest signing person moment answer
signature_said lab None number digest signing person moment answer is = absurd (cc)
signature_said lab (Some kept) number digest signing person moment answer is =
    signature_of_version lab kept (version_of kept.versions number) number digest signing person
    moment answer refl is

-- a record as it is opened, by a form that was found
opening_new_said : (form : FormVersion) (found : Option Record) (sample caller : List ℕ)
    (moment records : ℕ) (kept : Record)
    → opening_new form found sample caller moment records ≡ Ok kept
    → kept ≡ new_record form sample caller moment records
opening_new_said form (Some other) sample caller moment records kept is = absurd (cc)
opening_new_said form None sample caller moment records kept is =
    let room = not_refused (nat_le record_limit records) (People LabFull) _ _ is in
    sym (same_ok (new_record form sample caller moment records) kept room.1)

pub opening_said : (form : Option FormVersion) (found : Option Record) (sample caller : List ℕ)
    (moment records : ℕ) (kept : Record)
    → opening_record form found sample caller moment records ≡ Ok kept
    → (one : FormVersion) × (kept ≡ new_record one sample caller moment records)
opening_said None found sample caller moment records kept is = absurd (cc)
opening_said (Some form) found sample caller moment records kept is =
    (form, opening_new_said form found sample caller moment records kept is)
