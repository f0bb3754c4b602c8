-- Values from outside, so that a wrong rule in the definitions does not check: of small laboratories, and of
-- what is asked of them, each definition holds of one and not of another (docs/LABORATORY.md, docs/PERSONS.md
-- and docs/RECORDS.md). No SHA-256 is computed: a digest stands as the `digest_of` a version.
use Rattle.std.proofs.Common.{◌≡◌, ◌≢◌, ℕ, true, false, List, [], ◌∷◌, map, replicate, Some, None, refl, lit≤, le→leb, ap, true≢false, arith}
use Rattle.std.specs.Prelude.{codes, Ok, Err}
use Rattle.std.proofs.lemmas.Bool.{false≢true}
use Rattle.std.proofs.lemmas.List.Elements.{All-from_recursion, All-nil}
use Rattle.lab_forms_texts.specs.declared.tick.Tick.{Tick}
use Rattle.lab_seal_hashes.specs.declared.verifiers.VerifierParts.{VerifierParts}
use Rattle.lab_people_access.specs.declared.passwords.Password.TheVariants.{Chosen}
use Rattle.lab_people_access.specs.declared.persons.Person.{Person}
use Rattle.lab_people_access.specs.declared.roles.Role.{Role}
use Rattle.lab_people_access.specs.declared.roles.Roles.{Roles}
use Rattle.lab_people_access.specs.declared.roles.Role.TheVariants.{Analyst, Administrator}
use Rattle.lab_people_access.specs.Attempts.{attempt_by}
use Rattle.lab_people_access.specs.Openings.{opening}
use Rattle.lab_people_access.specs.Roles.{no_roles, with_role}
use Rattle.lab_people_access.specs.Persons.{newcomer}
use Rattle.lab_forms.specs.declared.forms.Field.{Field}
use Rattle.lab_forms.specs.declared.kinds.Kind.TheVariants.{Text, YesNo}
use Rattle.lab_forms.specs.Forms.{is_form}
use Rattle.lab_seal_versions.specs.declared.versions.Format.TheVariants.{Two}
use Rattle.lab_seal_versions.specs.declared.seals.Meaning.{Meaning}
use Rattle.lab_seal_versions.specs.declared.seals.Meaning.TheVariants.{Authorship, Review}
use Rattle.lab_records_kept.specs.declared.records.FormVersion.{FormVersion}
use Rattle.lab_records_kept.specs.declared.records.Record.{Record}
use Rattle.lab_records_kept.specs.declared.records.Version.{Version}
use Rattle.lab_records_kept.specs.declared.records.Signature.{Signature}
use Rattle.lab_records_kept.specs.declared.trails.Action.TheVariants as action
use Rattle.lab_records_kept.specs.declared.trails.TrailRow.{TrailRow}
use Rattle.lab_records_kept.specs.declared.labs.Lab.{Lab}
use Rattle.lab_records_kept.specs.Digests.{digest_of, signature_of}
use Rattle.lab_records_kept.specs.Bound.{IsBoundTo, IsSealed, IsBoundRecord, IsBound}
use Rattle.lab_records_kept.specs.Dual.{EnteredNone, IsSignedDually, IsDualRecord, IsDual}
use Rattle.lab_records_kept.proofs.ReleaseLemmas.{all_released}
use Rattle.lab_records_kept.proofs.KnownDefaults.{bare_entry, bare_field, bare_form, bare_lab, bare_record, bare_told, bare_version}
use Rattle.lab_records_machine.specs.declared.births.Founder.{Founder}
use Rattle.lab_records_machine.specs.declared.births.Founding.{Founding}
use Rattle.lab_records_machine.specs.declared.births.BirthRefusal.TheVariants.{CodeTaken, BadPassword, LabExists}
use Rattle.lab_records_machine.specs.declared.commands.Command.{Command}
use Rattle.lab_records_machine.specs.declared.commands.Command.TheVariants.{Card, Open, In}
use Rattle.lab_records_machine.specs.declared.commands.SessionCommand.TheVariants.{OnAccount, OnRecord, Reading}
use Rattle.lab_records_machine.specs.declared.commands.AccountCommand.TheVariants.{Close}
use Rattle.lab_records_machine.specs.declared.commands.RecordCommand.TheVariants.{MakeForm}
use Rattle.lab_records_machine.specs.declared.commands.ReadingCommand.TheVariants.{ReadPersons}
use Rattle.lab_records_machine.specs.Births.{newborn, born}
use Rattle.lab_records_laws.specs.Asking.{IsAskedRightly, IsCommandFormed}
use Rattle.lab_records_laws.specs.Births.{IsAdministrator, IsFounded}
use Rattle.lab_records_laws.specs.Runs.{Asked, after_all, AreAskedRightly, IsReleasing}
use Rattle.lab_records_laws.specs.Stepping.{HoldsOf, WhereThere}
use Rattle.lab_records_laws.proofs.RunLemmas.{run_releasing}
use Rattle.lab_copy_rows.proofs.ListLemmas.{no_some}
use Rattle.lab_records_machine.specs.declared.replies.Reply.TheVariants.{Card, Copied}
use Rattle.lab_records_laws.specs.Inspections.{AreCopiable, IfCopied, counts_within}

-- ---- a laboratory as it is founded

abbrev account : List ℕ → List ℕ → Role → Person
account code name role = newcomer code name (with_role no_roles role)

abbrev ann : Person
ann = account (codes "ann") (codes "Ann Ames") Administrator

abbrev bob : Person
bob = account (codes "bob") (codes "Bob Bell") Administrator

abbrev cid : Person
cid = account (codes "cid") (codes "Cid Cole") Administrator

abbrev dan : Person
dan = account (codes "dan") (codes "Dan Day") Analyst

-- the first row of the trail
abbrev first_row : TrailRow
first_row = record bare_told { number = 1; action = action.Found; subject = codes "aqua" }

abbrev with_persons : List Person → Lab
with_persons persons = record bare_lab {
  code = codes "aqua";
  name = codes "Aqua Lab";
  persons = persons;
  trail = first_row ∷ [];
}

abbrev aqua : Lab
aqua = with_persons (ann ∷ bob ∷ cid ∷ [])

-- ---- what holds of the laboratory that there is

abbrev IsNew : Lab → Type 0
IsNew lab = lab.last ≡ 0

used_is_not_new : IsNew (record aqua { last = 1100 }) → ⊥
used_is_not_new is = absurd cc

-- it holds of a laboratory that is there; where there is none, nothing holds of it
pub known_holding : HoldsOf IsNew (Some aqua) × (HoldsOf IsNew (Some (record aqua { last = 1100 })) → ⊥)
    × (HoldsOf IsNew None → ⊥)
known_holding = (refl, used_is_not_new, λ none. none)

-- it holds where there is a laboratory; where there is none, nothing is asked
pub known_where_there : WhereThere IsNew (Some aqua)
    × (WhereThere IsNew (Some (record aqua { last = 1100 })) → ⊥) × WhereThere IsNew None
known_where_there = (refl, used_is_not_new, tt)

-- ---- births

-- three administrators, a row of the trail, and nothing else
pub known_founded : IsFounded aqua
known_founded = record {
  three = refl;
  administrators = All-from_recursion IsAdministrator aqua.persons (refl, (refl, (refl, tt)));
  told = refl;
  no_sessions = refl;
  no_forms = refl;
  no_records = refl;
}

two_are_not_three : ◌≢◌ {A = ℕ} 2 3
two_are_not_three same = absurd cc

dan_is_none : IsAdministrator dan → ⊥
dan_is_none is = true≢false (ap (λ (roles : Roles). roles.analyst) is)

-- two persons aren't enough, and an analyst is no administrator
pub known_not_founded : (IsFounded (with_persons (ann ∷ bob ∷ [])) → ⊥)
    × (IsFounded (with_persons (ann ∷ bob ∷ dan ∷ [])) → ⊥)
known_not_founded = (
  λ founded. two_are_not_three founded.three,
  λ founded. dan_is_none (founded.administrators 2 ann (omega arith)),
)

-- a founder with a password
abbrev founder : List ℕ → List ℕ → List ℕ → Founder
founder code name password = record { code = code; name = name; password = password }

-- the founders come in another order than that of their codes
abbrev founding : List ℕ → List ℕ → Founding
founding code password = record {
  name = codes "Aqua Lab";
  first = founder (codes "cid") (codes "Cid Cole") (codes "correct horse 3");
  second = founder (codes "ann") (codes "Ann Ames") (codes "correct horse 1");
  third = founder code (codes "Bob Bell") password;
}

-- a laboratory is born of three codes; a code comes twice, a password has 11 bytes, or there is one of that code
pub known_births : (tick : Tick)
    → (born None (codes "aqua") tick (founding (codes "bob") (codes "correct horse 2"))
    ≡ Ok (newborn (codes "aqua") tick (founding (codes "bob") (codes "correct horse 2"))))
    × (born None (codes "aqua") tick (founding (codes "ann") (codes "correct horse 2")) ≡ Err CodeTaken)
    × (born None (codes "aqua") tick (founding (codes "bob") (codes "correct hor")) ≡ Err BadPassword)
    × (born (Some aqua) (codes "aqua") tick (founding (codes "bob") (codes "correct horse 2")) ≡ Err LabExists)
known_births tick = (refl, refl, refl, refl)

-- its persons stand in the order of their codes
pub known_newborn : (tick : Tick)
    → map (λ (person : Person). person.code)
    (newborn (codes "aqua") tick (founding (codes "bob") (codes "correct horse 2"))).persons
    ≡ codes "ann" ∷ codes "bob" ∷ codes "cid" ∷ []
known_newborn tick = refl

-- ---- what is asked

-- a field that is answered by yes or no
abbrev clear : Field
clear = record bare_field { key = codes "clear"; label = codes "Clear"; required = true; kind = YesNo }

-- whoever makes a form of these fields
abbrev making : List Field → Command
making fields = In (OnRecord (MakeForm (codes "water") (record { fields = fields; approval = false })))

-- without a token, at a moment
abbrev at : Tick → ℕ → Command → Asked
at tick moment command = record {
  tick = record tick { moment = moment };
  instruction = record { token = None; command = command };
}

too_many : IsAskedRightly (record { token = None; command = making (replicate 61 clear) }) → ⊥
too_many few = le→leb 61 60 few

-- 60 fields are asked rightly, and 61 are not; what is no form is always
pub known_asking : IsAskedRightly (record { token = None; command = making (replicate 60 clear) })
    × (IsAskedRightly (record { token = None; command = making (replicate 61 clear) }) → ⊥)
    × IsAskedRightly (record { token = None; command = In (OnAccount Close) })
known_asking = (lit≤ tt, too_many, tt)

-- a form has one field or more, no two of one key, each such as a form may have: a text has room for a byte
pub known_formed : IsCommandFormed (making (clear ∷ [])) × (IsCommandFormed (making []) → ⊥)
    × (IsCommandFormed (making (clear ∷ clear ∷ [])) → ⊥)
    × (IsCommandFormed (making ((record clear { kind = Text 0 }) ∷ [])) → ⊥) × IsCommandFormed Card
unfolding is_form
known_formed = (refl, λ is. false≢true is, λ is. false≢true is, λ is. false≢true is, tt)

-- so is all of a list, where each of it is
pub known_asked : (tick : Tick)
    → AreAskedRightly (at tick 100 Card ∷ at tick 200 (making (clear ∷ [])) ∷ [])
    × (AreAskedRightly (at tick 100 Card ∷ at tick 200 (making (replicate 61 clear)) ∷ []) → ⊥)
known_asked tick = (
  All-from_recursion (λ (one : Asked). IsAskedRightly one.instruction)
      (at tick 100 Card ∷ at tick 200 (making (clear ∷ [])) ∷ []) (tt, (lit≤ tt, tt)),
  λ rightly. too_many (rightly 1 (at tick 100 Card) (omega arith)),
)

-- ---- what is left after all that is asked

-- nothing comes of nothing, and where nothing is asked the laboratory is as it was
pub known_nothing : (tick : Tick)
    → (after_all None (at tick 100 Card ∷ at tick 200 (In (OnAccount Close)) ∷ []) ≡ None) × (after_all (Some aqua) [] ≡ Some aqua)
known_nothing tick = (refl, refl)

-- the card changes nothing, nor does a command without a session
pub known_unchanged : (tick : Tick)
    → after_all (Some aqua) (at tick 100 Card ∷ at tick 200 (In (Reading ReadPersons)) ∷ at tick 300 (In (OnAccount Close)) ∷ []) ≡ Some aqua
known_unchanged tick = refl

-- a password for nobody's code is counted once each, and its moment is the last
pub known_strays : (tick : Tick) (password : List ℕ)
    → after_all (Some aqua) (at tick 100 (Open (codes "zed") password) ∷ at tick 200 (Open (codes "zed") password) ∷ [])
    ≡ Some (record aqua { last = 200; strays = 2 })
unfolding opening
known_strays tick password = refl

-- the first is asked first: what comes at an earlier moment after it is refused, and counts nothing
pub known_order : (tick : Tick) (password : List ℕ)
    → after_all (Some aqua) (at tick 200 (Open (codes "zed") password) ∷ at tick 199 (Open (codes "zed") password) ∷ [])
    ≡ Some (record aqua { last = 200; strays = 1 })
unfolding opening
known_order tick password = refl

-- ann, who was locked at 1300
abbrev locked_ann : VerifierParts → Person
locked_ann verifier = record ann { failures = 5; locked = Some 1300; password = Chosen verifier 0 }

abbrev with_locked : VerifierParts → Lab
with_locked verifier = with_persons (locked_ann verifier ∷ bob ∷ cid ∷ [])

-- an opening at 3099, while the lock stands, is told in the trail, and leaves the account as it is
pub known_locked : (tick : Tick) (password : List ℕ) (verifier : VerifierParts)
    → after_all (Some (with_locked verifier)) (at tick 3099 (Open (codes "ann") password) ∷ [])
    ≡ Some (record (with_locked verifier) {
      last = 3099;
      trail =
          first_row
          ∷ (record bare_told { number = 2; moment = 3099; person = Some (codes "ann"); action = action.Refuse; subject = codes "open" })
          ∷ [];
    })
unfolding opening attempt_by
known_locked tick password verifier = refl

-- ---- released by two persons

-- the form of a record: whether the water is clear
abbrev water : FormVersion
water = record bare_form {
  code = codes "water";
  version = 1;
  form = record { fields = clear ∷ []; approval = false };
}

-- version 1, into which these persons entered a value each, with these signatures
abbrev version : List (List ℕ) → List Signature → Version
version persons signatures = record bare_version {
  format = Two false;
  opener = codes "dan";
  opened = 1000;
  rows = map (λ (person : List ℕ). record bare_entry {
    key = codes "clear";
    value = codes "yes";
    person = person;
    moment = 1100;
  }) persons;
  signatures = signatures;
}

abbrev about : List Version → Record
about versions = record bare_record { number = 1; form = water; sample = codes "S1"; versions = versions }

-- the digest of version 1, which covers no signature
abbrev digest : List (List ℕ) → List ℕ
digest persons = digest_of (codes "aqua") (about []) (version persons [])

-- a signature over a digest, with its seal
abbrev signed : List ℕ → Meaning → List ℕ → Signature
signed person meaning over =
    signature_of (record {
      version = over;
      lab = codes "aqua";
      person = person;
      name = codes "Some Name";
      meaning = meaning;
      moment = 1300;
    })

-- dan signs as the author, eve as the reviewer
abbrev by_two : List (List ℕ) → List ℕ → Version
by_two persons over =
    version persons (signed (codes "dan") Authorship over ∷ signed (codes "eve") Review over ∷ [])

abbrev with_version : Version → Lab
with_version one = record aqua { last = 1300; forms = water ∷ []; records = about (one ∷ []) ∷ [] }

-- what dan alone entered, and what eve entered too
abbrev dans : List (List ℕ)
dans = codes "dan" ∷ []

abbrev both : List (List ℕ)
both = codes "dan" ∷ codes "eve" ∷ []

released_bound : IsBound (with_version (by_two dans (digest dans)))
released_bound =
    let one = by_two dans (digest dans) in
    let kept = about (one ∷ []) in
    All-from_recursion (IsBoundRecord (codes "aqua")) (kept ∷ []) (
      record {
        signatures = All-from_recursion (IsSealed (codes "aqua") kept) kept.versions (
          All-from_recursion (IsBoundTo (codes "aqua") kept one) one.signatures
              (record { digest = refl; seal = refl }, (record { digest = refl; seal = refl }, tt)),
          tt,
        );
        chain = (refl, tt);
      },
      tt,
    )

released_dual : IsDual (with_version (by_two dans (digest dans)))
released_dual =
    let one = by_two dans (digest dans) in
    let kept = about (one ∷ []) in
    All-from_recursion IsDualRecord (kept ∷ []) (
      record {
        signed = All-from_recursion (IsSignedDually kept) kept.versions (
          record {
            format = refl;
            state = refl;
            signers = (refl, All-from_recursion (EnteredNone one) (signed (codes "eve") Review (digest dans) ∷ []) (refl, tt), tt);
          },
          tt,
        );
        settled = tt;
      },
      tt,
    )

-- what dan entered and signed, and eve reviewed, is bound and under dual control, and so is a new laboratory
pub known_releasing : HoldsOf IsReleasing (Some (with_version (by_two dans (digest dans))))
    × IsReleasing aqua
known_releasing = (
  record {
    bound = released_bound;
    dual = released_dual;
    released = all_released (with_version (by_two dans (digest dans))) released_bound released_dual;
  },
  record {
    bound = All-nil (IsBoundRecord (codes "aqua"));
    dual = All-nil IsDualRecord;
    released = all_released aqua (All-nil (IsBoundRecord (codes "aqua"))) (All-nil IsDualRecord);
  },
)

-- it isn't where the signatures name another digest, nor where the reviewer entered a value too
pub known_not_releasing :
    ((other : List ℕ) → other ≢ digest dans → IsReleasing (with_version (by_two dans other)) → ⊥)
    × (IsReleasing (with_version (by_two both (digest both))) → ⊥)
known_not_releasing = (
  λ other differs is.
      let one = by_two dans other in
      let signatures = (is.bound 0 (about (one ∷ [])) (omega arith)).signatures 0 one (omega arith) in
      differs (signatures 0 (signed (codes "dan") Authorship other) (omega arith)).digest,
  λ is.
      let one = by_two both (digest both) in
      let signed_so = (is.dual 0 (about (one ∷ [])) (omega arith)).signed 0 one (omega arith) in
      true≢false (signed_so.signers.1 0 (signed (codes "eve") Review (digest both)) (omega arith)),
)

-- the law, of one birth: whatever is asked of it then, what it releases is signed by two
pub known_run : (tick : Tick) (asked : List Asked)
    → HoldsOf IsReleasing
    (after_all (Some (newborn (codes "aqua") tick (founding (codes "bob") (codes "correct horse 2")))) asked)
known_run tick asked =
    run_releasing (codes "aqua") tick (founding (codes "bob") (codes "correct horse 2"))
    (newborn (codes "aqua") tick (founding (codes "bob") (codes "correct horse 2"))) refl asked

-- a record of that number, which has no version yet
abbrev numbered : Record → ℕ → Record
numbered kept number = record kept { number = number; versions = [] }

-- of the records 2, 5 and 6 those from 2 to 5 count, both ends with them
pub known_range : (lab : Lab) (kept : Record)
    → (counts_within (record lab { records = numbered kept 2 ∷ numbered kept 5 ∷ numbered kept 6 ∷ [] }) 2 5
    ≡ record { records = 2; versions = 0; entries = 0; signatures = 0 })
    × (counts_within (record lab { records = numbered kept 2 ∷ [] }) 3 5
    ≡ record { records = 0; versions = 0; entries = 0; signatures = 0 })
known_range lab kept = (refl, refl)

-- a fact is asked of the rows of a copy, and of no other reply
pub known_replies : (IfCopied (λ rows. rows ≡ []) (Copied []))
    × (IfCopied (λ rows. rows ≡ []) (Card (codes "aqua") (codes "Aqua Lab")))
known_replies = (refl, tt)

-- a laboratory in which nobody has a session is copied by nobody
pub known_stranger : (lab : Lab) (from to : ℕ)
    → AreCopiable (record lab { sessions = [] }) 5000 (Some (codes "00")) from to
known_stranger lab from to caller known = no_some caller known
