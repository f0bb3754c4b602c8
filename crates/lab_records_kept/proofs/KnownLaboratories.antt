-- What it means that a laboratory is bound, is under dual control, and keeps the one before: small
-- laboratories that are or do so, and others that don't, each for one reason. No SHA-256 is computed: a
-- digest stands as the `digest_of` a version, and another one is any that differs from it.
use Rattle.std.proofs.Common.{◌≡◌, ◌≢◌, ◌⊎◌, ℕ, Bool, true, false, cond, List, [], ◌∷◌, ◌++◌, length, length-append, replicate, flat_map, Option, Some, None, refl, sym, ap, subst, inl, inr, unwrap_or, arith, true≢false}
use Rattle.std.specs.Prelude.{codes, MatchOption}
use Rattle.std.specs.Fmt.{digits}
use Rattle.std.specs.Str.{bytes_eq}
use Rattle.std.proofs.lemmas.Bool.{false≢true}
use Rattle.std.proofs.lemmas.List.Elements.{All-from_recursion}
use Rattle.lab_people_access.specs.declared.roles.Role.{Role}
use Rattle.lab_people_access.specs.declared.roles.Role.TheVariants.{Analyst, Reviewer, Manager}
use Rattle.lab_people_access.specs.declared.persons.Person.{Person}
use Rattle.lab_people_access.specs.declared.sessions.Session.{Session}
use Rattle.lab_people_access.specs.Roles.{no_roles, with_role}
use Rattle.lab_people_access.specs.Sessions.{closed_session}
use Rattle.lab_people_access.specs.Persons.{newcomer}
use Rattle.lab_forms.specs.declared.kinds.Kind.TheVariants.{Number}
use Rattle.lab_forms.specs.declared.forms.Field.{Field}
use Rattle.lab_seal_versions.specs.declared.rows.EntryRow.{EntryRow}
use Rattle.lab_seal_versions.specs.declared.versions.Format.TheVariants.{Two}
use Rattle.lab_seal_versions.specs.declared.seals.Meaning.{Meaning}
use Rattle.lab_seal_versions.specs.declared.seals.Meaning.TheVariants.{Authorship, Review, Approval}
use Rattle.lab_seal_versions.specs.declared.states.State.TheVariants.{Released, Reviewed}
use Rattle.lab_records_kept.specs.declared.records.FormVersion.{FormVersion}
use Rattle.lab_records_kept.specs.declared.records.Record.{Record}
use Rattle.lab_records_kept.specs.declared.records.Version.{Version}
use Rattle.lab_records_kept.specs.declared.records.Signature.{Signature}
use Rattle.lab_records_kept.specs.declared.trails.Action.{Action}
use Rattle.lab_records_kept.specs.declared.trails.Action.TheVariants as action
use Rattle.lab_records_kept.specs.declared.trails.Deed.TheVariants as deed
use Rattle.lab_records_kept.specs.declared.trails.TrailRow.{TrailRow}
use Rattle.lab_records_kept.specs.declared.labs.Lab.{Lab}
use Rattle.lab_records_kept.specs.Digests.{digest_of, signature_of, seal_for}
use Rattle.lab_records_kept.specs.Values.{version_state, all_rows}
use Rattle.lab_records_kept.specs.Bound.{IsBoundTo, IsSealed, IsBoundRecord, IsBound}
use Rattle.lab_records_kept.specs.Dual.{EnteredNone, IsSignedDually, IsDualRecord, IsDual}
use Rattle.lab_records_kept.specs.Keeping.{KeepsPerson, KeepsPersons, IsToldOnce, Keeps}
use Rattle.lab_records_kept.proofs.KnownDefaults.{bare_entry, bare_field, bare_form, bare_lab, bare_record, bare_session, bare_told, bare_version}

-- ---- what these laboratories hold: dan enters, eve reviews, gus approves

abbrev aqua : List ℕ
aqua = codes "aqua"

abbrev account : List ℕ → List ℕ → Role → Person
account code name role = newcomer code name (with_role no_roles role)

abbrev persons : List Person
persons =
    account (codes "dan") (codes "Dan Day") Analyst ∷ account (codes "eve") (codes "Eve Ems") Reviewer
    ∷ account (codes "gus") (codes "Gus Gray") Manager ∷ []

-- dan's session, and when it was last used
abbrev session : ℕ → Session
session last = record bare_session {
  number = 1;
  person = codes "dan";
  token = replicate 32 7;
  opened = 900;
  last = last;
}

abbrev lead : Field
lead = record bare_field {
  key = codes "lead";
  label = codes "Lead";
  required = true;
  kind = Number (codes "mg/L") 2 None None;
}

-- the form, whose version 1 wants no approval, and version 2 does
abbrev water : Bool → FormVersion
water approval = record bare_form {
  code = codes "water";
  version = cond approval 2 1;
  form = record { fields = lead ∷ []; approval = approval };
}

-- somebody enters an amount of lead, in place of an earlier one for a reason
abbrev row : List ℕ → List ℕ → ℕ → Option (List ℕ) → EntryRow
row person value moment reason = record bare_entry {
  key = codes "lead";
  value = value;
  unit = codes "mg/L";
  person = person;
  moment = moment;
  reason = reason;
}

abbrev by_dan : EntryRow
by_dan = row (codes "dan") (codes "7.50") 1100 None

abbrev by_eve : EntryRow
by_eve = row (codes "eve") (codes "7.52") 1200 (Some (codes "misread scale"))

-- version 1, which dan opened, with these rows and signatures
abbrev version : Bool → List EntryRow → List Signature → Version
version approval rows signatures = record bare_version {
  format = Two approval;
  opener = codes "dan";
  opened = 1000;
  rows = rows;
  signatures = signatures;
}

-- version 2, by which dan amends what has the digest
abbrev amended : List ℕ → Version
amended previous = record bare_version {
  format = Two false;
  origin = record { number = 2; amendment = Some (record { previous = previous; reason = codes "misread scale" }) };
  opener = codes "dan";
  opened = 1500;
  rows = row (codes "dan") (codes "7.05") 1500 (Some (codes "misread scale")) ∷ [];
}

-- record 1, about sample S1
abbrev about : Bool → List Version → Record
about approval versions = record bare_record {
  number = 1;
  form = water approval;
  sample = codes "S1";
  versions = versions;
}

-- the digest of version 1 with these rows, which covers no signature
abbrev digest : Bool → List EntryRow → List ℕ
digest approval rows = digest_of aqua (about approval []) (version approval rows [])

-- a signature over a digest, with its seal
abbrev signed : List ℕ → List ℕ → Meaning → ℕ → List ℕ → Signature
signed person name meaning moment over =
    signature_of (record {
      version = over;
      lab = aqua;
      person = person;
      name = name;
      meaning = meaning;
      moment = moment;
    })

abbrev dan_signs : List ℕ → Signature
dan_signs over = signed (codes "dan") (codes "Dan Day") Authorship 1300 over

abbrev eve_reviews : List ℕ → Signature
eve_reviews over = signed (codes "eve") (codes "Eve Ems") Review 1400 over

abbrev gus_approves : List ℕ → Signature
gus_approves over = signed (codes "gus") (codes "Gus Gray") Approval 1450 over

-- the laboratory after its last moment, with these records and rows of the trail
abbrev laboratory : ℕ → List Record → List TrailRow → Lab
laboratory last records trail = record bare_lab {
  code = aqua;
  name = codes "Aqua Lab";
  last = last;
  persons = persons;
  sessions = session last ∷ [];
  forms = water false ∷ water true ∷ [];
  records = records;
  trail = trail;
}

-- the laboratory with this one record, whatever its trail tells
abbrev with_record : Record → Lab
with_record kept = laboratory 1600 (kept ∷ []) []

-- ---- released by two persons, and by three

-- the rows were signed by their author and by a reviewer
abbrev by_two : Bool → List EntryRow → Version
by_two approval rows =
    version approval rows (dan_signs (digest approval rows) ∷ eve_reviews (digest approval rows) ∷ [])

-- and by a third person
abbrev by_three : List EntryRow → Version
by_three rows =
    version true rows (dan_signs (digest true rows) ∷ eve_reviews (digest true rows) ∷ gus_approves (digest true rows) ∷ [])

-- where the form wants an approval, the third signature releases
pub known_states : (version_state (about false []) (by_two false (by_dan ∷ [])) ≡ Some Released)
    × (version_state (about true []) (by_two true (by_dan ∷ [])) ≡ Some Reviewed)
    × (version_state (about true []) (by_three (by_dan ∷ [])) ≡ Some Released)
known_states = (refl, refl, refl)

-- a released version, and another one that amends it
abbrev released_by_two : Record
released_by_two = about false (by_two false (by_dan ∷ []) ∷ amended (digest false (by_dan ∷ [])) ∷ [])

abbrev released_by_three : Record
released_by_three = about true (by_three (by_dan ∷ []) ∷ [])

-- ---- bound

pub known_bound_by_two : IsBound (with_record released_by_two)
known_bound_by_two =
    let first = by_two false (by_dan ∷ []) in
    let second = amended (digest false (by_dan ∷ [])) in
    All-from_recursion (IsBoundRecord aqua) (released_by_two ∷ []) (
      record {
        signatures = All-from_recursion (IsSealed aqua released_by_two) released_by_two.versions (
          All-from_recursion (IsBoundTo aqua released_by_two first) first.signatures
              (record { digest = refl; seal = refl }, (record { digest = refl; seal = refl }, tt)),
          (All-from_recursion (IsBoundTo aqua released_by_two second) [] tt, tt),
        );
        chain = (refl, (refl, tt));
      },
      tt,
    )

pub known_bound_by_three : IsBound (with_record released_by_three)
known_bound_by_three =
    let first = by_three (by_dan ∷ []) in
    All-from_recursion (IsBoundRecord aqua) (released_by_three ∷ []) (
      record {
        signatures = All-from_recursion (IsSealed aqua released_by_three) released_by_three.versions (
          All-from_recursion (IsBoundTo aqua released_by_three first) first.signatures (
            record { digest = refl; seal = refl },
            (
              record { digest = refl; seal = refl },
              (record { digest = refl; seal = refl }, tt),
            ),
          ),
          tt,
        );
        chain = (refl, tt);
      },
      tt,
    )

-- a signature over another digest
abbrev signed_elsewhere : List ℕ → Record
signed_elsewhere other = about false (version false (by_dan ∷ []) (dan_signs other ∷ []) ∷ [])

pub known_signature_unbound : (other : List ℕ) → other ≢ digest false (by_dan ∷ [])
    → IsBound (with_record (signed_elsewhere other)) → ⊥
known_signature_unbound other differs bound =
    let kept = signed_elsewhere other in
    let signatures = (bound 0 kept (omega arith)).signatures 0 (version false [] []) (omega arith) in
    differs (signatures 0 (dan_signs other) (omega arith)).digest

-- a signature with another seal than that of its own parts
abbrev sealed_elsewhere : List ℕ → Record
sealed_elsewhere other =
    let signature : Signature = record (dan_signs (digest false (by_dan ∷ []))) { seal = other } in
    about false (version false (by_dan ∷ []) (signature ∷ []) ∷ [])

pub known_seal_unbound : (other : List ℕ)
    → other ≢ seal_for aqua (dan_signs (digest false (by_dan ∷ [])))
    → IsBound (with_record (sealed_elsewhere other)) → ⊥
known_seal_unbound other differs bound =
    let kept = sealed_elsewhere other in
    let signatures = (bound 0 kept (omega arith)).signatures 0 (version false [] []) (omega arith) in
    differs (signatures 0 (dan_signs other) (omega arith)).seal

-- a version that amends another than the one before it
abbrev amended_elsewhere : List ℕ → Record
amended_elsewhere other = about false (by_two false (by_dan ∷ []) ∷ amended other ∷ [])

pub known_version_unbound : (other : List ℕ) → other ≢ digest false (by_dan ∷ [])
    → IsBound (with_record (amended_elsewhere other)) → ⊥
known_version_unbound other differs bound =
    let kept = amended_elsewhere other in
    differs (ap (λ (found : Option (List ℕ)). unwrap_or found other) (bound 0 kept (omega arith)).chain.1.0)

-- ---- dual control

pub known_dual_by_two : IsDual (with_record released_by_two)
known_dual_by_two =
    let first = by_two false (by_dan ∷ []) in
    All-from_recursion IsDualRecord (released_by_two ∷ []) (
      record {
        signed = All-from_recursion (IsSignedDually released_by_two) released_by_two.versions (
          record {
            format = refl;
            state = refl;
            signers = (refl, All-from_recursion (EnteredNone first) (eve_reviews (digest false (by_dan ∷ [])) ∷ []) (refl, tt), tt);
          },
          (record { format = refl; state = refl; signers = tt }, tt),
        );
        settled = (refl, tt);
      },
      tt,
    )

gus_is_not_eve : codes "gus" ≢ codes "eve"
gus_is_not_eve same = true≢false (ap (bytes_eq (codes "gus")) same)

pub known_dual_by_three : IsDual (with_record released_by_three)
known_dual_by_three =
    let first = by_three (by_dan ∷ []) in
    let over = digest true (by_dan ∷ []) in
    All-from_recursion IsDualRecord (released_by_three ∷ []) (
      record {
        signed = All-from_recursion (IsSignedDually released_by_three) released_by_three.versions (
          record {
            format = refl;
            state = refl;
            signers = (
              refl,
              All-from_recursion (EnteredNone first) (eve_reviews over ∷ gus_approves over ∷ []) (refl, (refl, tt)),
              gus_is_not_eve,
            );
          },
          tt,
        );
        settled = tt;
      },
      tt,
    )

-- the reviewer entered a row too
abbrev own_review : Record
own_review = about false (by_two false (by_dan ∷ by_eve ∷ []) ∷ [])

-- the author entered no row
abbrev no_author : Record
no_author =
    about false (version false (by_eve ∷ []) (dan_signs (digest false (by_eve ∷ [])) ∷ []) ∷ [])

-- the reviewer approves too
abbrev approved_twice : Record
approved_twice =
    let over = digest true (by_dan ∷ []) in
    let again = signed (codes "eve") (codes "Eve Ems") Approval 1450 over in
    about true (version true (by_dan ∷ []) (dan_signs over ∷ eve_reviews over ∷ again ∷ []) ∷ [])

-- an open version is amended
abbrev open_amended : Record
open_amended =
    about false (version false (by_dan ∷ []) [] ∷ amended (digest false (by_dan ∷ [])) ∷ [])

-- what was signed says of no approval, where the form wants one
abbrev unsaid : Record
unsaid = about true (by_two false (by_dan ∷ []) ∷ [])

pub known_not_dual : (IsDual (with_record own_review) → ⊥) × (IsDual (with_record no_author) → ⊥)
    × (IsDual (with_record approved_twice) → ⊥) × (IsDual (with_record open_amended) → ⊥)
    × (IsDual (with_record unsaid) → ⊥)
known_not_dual = (
  λ dual. true≢false
      (((dual 0 own_review (omega arith)).signed 0 (version false [] []) (omega arith)).signers.1 0 (eve_reviews []) (omega arith)),
  λ dual. false≢true ((dual 0 no_author (omega arith)).signed 0 (version false [] []) (omega arith)).signers.0,
  λ dual. ((dual 0 approved_twice (omega arith)).signed 0 (version true [] []) (omega arith)).signers.2 refl,
  λ dual. false≢true (dual 0 open_amended (omega arith)).settled.0,
  λ dual. false≢true ((dual 0 unsaid (omega arith)).signed 0 (version false [] []) (omega arith)).format,
)

-- ---- keeping

-- a row of the trail, which tells of dan
abbrev told : ℕ → ℕ → Action → List ℕ → TrailRow
told number moment done subject = record bare_told {
  number = number;
  moment = moment;
  person = Some (codes "dan");
  action = done;
  subject = subject;
}

-- what the trail tells: that record 1 was opened and a row entered; and that another one was
abbrev trail : List TrailRow
trail = told 1 1000 action.Record (codes "1") ∷ told 2 1100 action.Entry (codes "1/1/lead") ∷ []

abbrev trail_after : List TrailRow
trail_after =
    told 1 1000 action.Record (codes "1") ∷ told 2 1100 action.Entry (codes "1/1/lead")
    ∷ told 3 1200 action.Entry (codes "1/1/lead") ∷ []

-- the laboratory with the open version of these rows
abbrev with_rows : ℕ → List EntryRow → List TrailRow → Lab
with_rows last rows told = laboratory last (about false (version false rows [] ∷ []) ∷ []) told

abbrev before : Lab
before = with_rows 1100 (by_dan ∷ []) trail

-- dan enters 7.5 where 7.50 stood
abbrev another : EntryRow
another = row (codes "dan") (codes "7.5") 1200 (Some (codes "one decimal is meant"))

same_persons : (all : List Person) → KeepsPersons all all
same_persons all code person is =
    subst (λ (found : Option Person). MatchOption found ⊥ (KeepsPerson person)) (sym is)
    (record { same = record { code = refl; name = refl }; retired = λ gone. gone })

-- one row more, and one row of the trail more that tells of it
pub known_kept : Keeps before (with_rows 1200 (by_dan ∷ another ∷ []) trail_after)
unfolding digits
known_kept = record {
  code = refl;
  name = refl;
  persons = same_persons persons;
  sessions = (record { same = record { number = refl; person = refl; token = refl; opened = refl }; closed = λ is. is }, tt);
  forms = λ code number form is. is;
  records = (
    record {
      number = refl;
      form = refl;
      sample = refl;
      versions = (
        record {
          format = refl;
          origin = refl;
          opener = refl;
          opened = refl;
          rows = (refl, tt);
          signatures = tt;
        },
        tt,
      );
    },
    tt,
  );
  trail = (refl, (refl, tt));
  told = inr (record {
    deed = deed.Entry 1 1 (codes "lead");
    moment = 1200;
    person = codes "dan";
    told = refl;
    at = refl;
    by = refl;
    done = record { row = another; last = refl; added = refl; under = refl; by = refl; at = refl };
  });
}

values_differ : codes "7.5" ≢ codes "7.50"
values_differ same = absurd (cc)

-- a list with an item more is another one
longer : {A : Type 0} (list : List A) (item : A) → list ++ item ∷ [] ≢ list
longer list item same = absurd (omega (arith, ap length same, length-append list (item ∷ [])))

-- the rows differ, and the trail has no row more
untold : ((with_rows 1200 (by_dan ∷ another ∷ []) trail).records ≡ before.records)
    ⊎ IsToldOnce before (with_rows 1200 (by_dan ∷ another ∷ []) trail) → ⊥
untold (inl same) =
    let rows_of = λ (records : List Record). flat_map (λ (kept : Record). all_rows kept.versions) records in
    longer (by_dan ∷ []) another (ap rows_of same)
untold (inr once) = longer trail _ (sym once.told)

-- the row that stood is overwritten; it is taken out; the trail tells of no row more
pub known_not_kept : (Keeps before (with_rows 1200 (another ∷ []) trail_after) → ⊥)
    × (Keeps before (with_rows 1200 [] trail_after) → ⊥)
    × (Keeps before (with_rows 1200 (by_dan ∷ another ∷ []) trail) → ⊥)
known_not_kept = (
  λ keeps. values_differ (ap (λ (row : EntryRow). row.value) keeps.records.0.versions.0.rows.0),
  λ keeps. keeps.records.0.versions.0.rows,
  λ keeps. untold keeps.told,
)

-- a version that was signed takes no row more
abbrev after_signing : ℕ → List EntryRow → List TrailRow → Lab
after_signing last rows told =
    laboratory last (about false (version false rows (dan_signs (digest false (by_dan ∷ [])) ∷ []) ∷ []) ∷ []) told

pub known_signed_not_kept :
    Keeps (after_signing 1300 (by_dan ∷ []) trail) (after_signing 1350 (by_dan ∷ another ∷ []) trail_after) → ⊥
known_signed_not_kept keeps =
    longer (by_dan ∷ []) another keeps.records.0.versions.0.rows

-- dan was retired and is back; dan's session was closed and is open
pub known_undone_not_kept :
    (Keeps (record before { persons = record (account (codes "dan") (codes "Dan Day") Analyst) { retired = true } ∷ [] }) before → ⊥)
    × (Keeps (record before { sessions = closed_session (session 1100) ∷ [] }) before → ⊥)
known_undone_not_kept = (
  λ keeps. false≢true ((keeps.persons (codes "dan") _ refl).retired refl),
  λ keeps. false≢true (keeps.sessions.0.closed refl),
)
