-- A legible laboratory stays so by legible changes, and is born so; and what a copy shows of it are
-- lines whose parts are what their types admit, so that the copy is sound.
use Rattle.std.proofs.Common.{◌≡◌, ◌≤◌, ◌<◌, ◌*◌, ◌/◌, ◌%◌, ◌^◌, ℕ, zero, suc, Bool, true, false, cond, List, [], ◌∷◌, ◌++◌, length, map, take, drop, get_or, Option, Some, None, Result, Ok, Err, IfSome, refl, subst, arith}
use Rattle.std.specs.Prelude.{All, IsTrue, MatchOption, OnOk, bytes_eq}
use Rattle.std.specs.Int.{byte_at, bytes_high_first, w32}
use Rattle.std.specs.List.{flat_map, filter_map, cons_option, insert, position_or_len, AllByRecursion}
use Rattle.std.proofs.lemmas.List.{get_or_past}
use Rattle.std.proofs.lemmas.List.Elements.{All-nil, All-cons, All-head, All-tail, All-append, All-push, All-take, All-drop}
use Rattle.hex.specs.Hex.{IsBytes}
use Rattle.sha2.specs.Sha256.{digest_bytes, final_hash, initial_hash_256, sha256}
use Rattle.sha2.proofs.Facts256.{length-sha256}
use Rattle.lab_forms_texts.specs.Names.{is_lab_code, is_name, is_person_code}
use Rattle.lab_people_access.specs.declared.persons.Person.{Person}
use Rattle.lab_people_access.specs.declared.sessions.Session.{Session}
use Rattle.lab_people_access.specs.Persons.{person_of}
use Rattle.lab_seal_versions.specs.declared.rows.EntryRow.{EntryRow}
use Rattle.lab_seal_versions.specs.Versions.{IsDigest, IsRow, version_text}
use Rattle.lab_records_kept.specs.declared.births.Newborn.{Newborn}
use Rattle.lab_records_kept.specs.declared.changes.Change.{Change}
use Rattle.lab_records_kept.specs.declared.changes.Change.TheVariants.{Last, Strays, PersonAdded, PersonSet, SessionAdded, SessionSet, SessionsClosed, FormAdded, RecordAdded, RowAdded, VersionOpened, SignatureAdded, TrailAdded}
use Rattle.lab_records_kept.specs.declared.labs.Lab.{Lab}
use Rattle.lab_records_kept.specs.declared.records.Record.{Record as KeptRecord}
use Rattle.lab_records_kept.specs.declared.records.Signature.{Signature}
use Rattle.lab_records_kept.specs.declared.records.Version.{Version}
use Rattle.lab_records_kept.specs.Births.{newborn_lab}
use Rattle.lab_records_kept.specs.Changes.{added_person, change, changed, changed_in, entered_in, in_last, in_record, in_version, opened_in, signed_in, with_person, with_row, with_signature}
use Rattle.lab_records_kept.specs.Digests.{digest_of, parts_of}
use Rattle.lab_records_kept.specs.Lookups.{caller_of, comes_before, has_number, is_numbered, is_within, records_within}
use Rattle.lab_copy_rows.specs.Copies.{counts_of, entry_in, record_in, signature_in, version_in}
use Rattle.lab_copy_rows.specs.Lines.{IsCopyLine, IsEntryLine, IsLine, IsRecordLine, IsSignatureLine, IsVersionLine}
use Rattle.lab_copy_rows.specs.Outs.{Sends}
use Rattle.lab_copy_rows.specs.Reading.{last_count}
use Rattle.lab_copy_rows.specs.declared.lines.Line.{Line}
use Rattle.lab_copy_rows.specs.declared.lines.Line.TheVariants as line
use Rattle.lab_records_copies.specs.declared.orders.CopyOrder.{CopyOrder}
use Rattle.lab_records_copies.specs.CopyLines.{body_lines, copy_line, copy_lines, end_line, entry_line, record_line, record_lines, signature_line, version_line, version_lines}
use Rattle.lab_records_copies.specs.Soundness.{AreLines}
use Rattle.lab_records_copies.proofs.CopyLemmas.{copies_are_sound}
use Rattle.lab_records_copy_out.specs.Legible.{AllGiveSoundCopies, IsCopiable, IsLegible, IsLegibleChange, IsLegibleOrder, IsLegiblePerson, IsLegibleRecord, IsLegibleSignature, IsLegibleVersion, SendsSound}
use Rattle.lab_records_copy_out.specs.CopyTexts.{IsWalkable, copy_text}
use Rattle.lab_records_copy_out.proofs.CountLemmas.{few_within}
use Rattle.lab_records_copy_out.proofs.LimitLemmas.{all_can_be_walked, few_of_records}

-- ---- a digest is of bytes

small : (n : ℕ) → n % 256 < 256
small n = omega arith

byte_small : (k n : ℕ) → byte_at k n < 256
byte_small zero n = small n
byte_small (suc k) n = small (n / 256 ^ suc k)

word_small : (k n : ℕ) → All (λ b. b < 256) (bytes_high_first k n)
word_small zero n = All-nil (λ b. b < 256)
word_small (suc k) n =
    All-cons (λ b. b < 256) (byte_at k n) (bytes_high_first k n) (byte_small k n) (word_small k n)

words_small : (h : List ℕ) (n : ℕ) → All (λ b. b < 256) (digest_bytes h n)
unfolding digest_bytes
words_small h zero = All-nil (λ b. b < 256)
words_small h (suc n) =
    All-append (λ b. b < 256) (digest_bytes h n) (bytes_high_first 4 (get_or h n 0))
    (words_small h n) (word_small 4 (get_or h n 0))

-- an item of a list, or 0 behind its end
bytes_of : (bytes : List ℕ) → All (λ b. b < 256) bytes → IsBytes bytes
bytes_of [] small i = omega arith
bytes_of (b ∷ others) small zero = All-head (λ b. b < 256) b others small
bytes_of (b ∷ others) small (suc i) =
    bytes_of others (All-tail (λ b. b < 256) b others small) i

bytes_sha256 : (m : List ℕ) → IsBytes (sha256 m)
unfolding sha256
bytes_sha256 m =
    bytes_of (digest_bytes (final_hash initial_hash_256 m) 8)
    (words_small (final_hash initial_hash_256 m) 8)

digest_is : (lab : List ℕ) (kept : KeptRecord) (version : Version) →
    IsDigest (digest_of lab kept version)
digest_is lab kept version =
    let text = version_text (parts_of lab kept version) in
    (length-sha256 text, bytes_sha256 text)

-- ---- changes of persons

set_by : (own : Bool) (person one : Person) (others rest : List Person) → IsLegiblePerson person →
    All IsLegiblePerson (one ∷ others) → All IsLegiblePerson rest →
    All IsLegiblePerson (cond own (person ∷ others) (one ∷ rest))
set_by true person one others rest is all more =
    All-cons IsLegiblePerson person others is (All-tail IsLegiblePerson one others all)
set_by false person one others rest is all more =
    All-cons IsLegiblePerson one rest (All-head IsLegiblePerson one others all) more

set_legible : (person : Person) (persons : List Person) → IsLegiblePerson person →
    All IsLegiblePerson persons → All IsLegiblePerson (with_person person persons)
set_legible person [] is all = all
set_legible person (one ∷ others) is all =
    set_by (bytes_eq one.code person.code) person one others (with_person person others) is all
    (set_legible person others is (All-tail IsLegiblePerson one others all))

added_at : (n : ℕ) (person : Person) (persons : List Person) → IsLegiblePerson person →
    All IsLegiblePerson persons → All IsLegiblePerson (insert persons n person)
added_at n person persons is all =
    All-append IsLegiblePerson (take n persons) (person ∷ drop n persons)
    (All-take IsLegiblePerson n persons all)
    (All-cons IsLegiblePerson person (drop n persons) is (All-drop IsLegiblePerson n persons all))

added_legible : (person : Person) (persons : List Person) → IsLegiblePerson person →
    All IsLegiblePerson persons → All IsLegiblePerson (added_person person persons)
added_legible person persons is all =
    added_at (position_or_len (λ one. comes_before person.code one.code) persons) person persons is
    all

-- ---- changes of records

-- what is done to one item of a list, or to none
done_by : {A : Type 0} (Holds : A → Type 0) (own : Bool) (next : A → A) (one : A)
    (others rest : List A) → ((it : A) → Holds it → Holds (next it)) → All Holds (one ∷ others) →
    All Holds rest → All Holds (cond own (next one ∷ others) (one ∷ rest))
done_by Holds true next one others rest keeps all more =
    All-cons Holds (next one) others (keeps one (All-head Holds one others all))
    (All-tail Holds one others all)
done_by Holds false next one others rest keeps all more =
    All-cons Holds one rest (All-head Holds one others all) more

record_legible : (number : ℕ) (next : KeptRecord → KeptRecord) (records : List KeptRecord) →
    ((it : KeptRecord) → IsLegibleRecord it → IsLegibleRecord (next it)) →
    All IsLegibleRecord records → All IsLegibleRecord (in_record number next records)
record_legible number next [] keeps all = all
record_legible number next (one ∷ others) keeps all =
    done_by IsLegibleRecord (has_number number one) next one others (in_record number next others)
    keeps all
    (record_legible number next others keeps (All-tail IsLegibleRecord one others all))

version_legible : (number : ℕ) (next : Version → Version) (versions : List Version) →
    ((it : Version) → IsLegibleVersion it → IsLegibleVersion (next it)) →
    All IsLegibleVersion versions → All IsLegibleVersion (in_version number next versions)
version_legible number next [] keeps all = all
version_legible number next (one ∷ others) keeps all =
    done_by IsLegibleVersion (is_numbered number one) next one others
    (in_version number next others) keeps all
    (version_legible number next others keeps (All-tail IsLegibleVersion one others all))

last_legible : (next : Version → Version) (versions : List Version) →
    ((it : Version) → IsLegibleVersion it → IsLegibleVersion (next it)) →
    All IsLegibleVersion versions → All IsLegibleVersion (in_last next versions)
last_legible next [] keeps all = all
last_legible next (one ∷ []) keeps all =
    All-cons IsLegibleVersion (next one) [] (keeps one (All-head IsLegibleVersion one [] all))
    (All-nil IsLegibleVersion)
last_legible next (one ∷ other ∷ others) keeps all =
    All-cons IsLegibleVersion one (in_last next (other ∷ others))
    (All-head IsLegibleVersion one (other ∷ others) all)
    (last_legible next (other ∷ others) keeps
    (All-tail IsLegibleVersion one (other ∷ others) all))

-- a record with other versions
with_versions : (kept : KeptRecord) (versions : List Version) → IsLegibleRecord kept →
    All IsLegibleVersion versions → IsLegibleRecord (record kept { versions = versions })
with_versions kept versions is all = record {
  number = is.number;
  form_version = is.form_version;
  form = is.form;
  sample = is.sample;
  versions = all;
}

row_legible : (row : EntryRow) (version : Version) → IsRow row → IsLegibleVersion version →
    IsLegibleVersion (with_row row version)
row_legible row version is all = record {
  number = all.number;
  reason = all.reason;
  opener = all.opener;
  opened = all.opened;
  rows = All-push IsRow version.rows row all.rows is;
  signatures = all.signatures;
}

signature_legible : (signature : Signature) (version : Version) → IsLegibleSignature signature →
    IsLegibleVersion version → IsLegibleVersion (with_signature signature version)
signature_legible signature version is all = record {
  number = all.number;
  reason = all.reason;
  opener = all.opener;
  opened = all.opened;
  rows = all.rows;
  signatures = All-push IsLegibleSignature version.signatures signature all.signatures is;
}

-- ---- any change

with_persons : (lab : Lab) (persons : List Person) → IsLegible lab → All IsLegiblePerson persons →
    IsLegible (record lab { persons = persons })
with_persons lab persons is all =
    record { code = is.code; name = is.name; persons = all; records = is.records }

with_records : (lab : Lab) (records : List KeptRecord) → IsLegible lab →
    All IsLegibleRecord records → IsLegible (record lab { records = records })
with_records lab records is all =
    record { code = is.code; name = is.name; persons = is.persons; records = all }

change_legible : (lab : Lab) (one : Change) → IsLegible lab → IsLegibleChange one →
    IsLegible (change lab one)
change_legible lab (Last moment) is brings =
    record { code = is.code; name = is.name; persons = is.persons; records = is.records }
change_legible lab (Strays count) is brings =
    record { code = is.code; name = is.name; persons = is.persons; records = is.records }
change_legible lab (PersonAdded person) is brings =
    with_persons lab (added_person person lab.persons) is
    (added_legible person lab.persons brings is.persons)
change_legible lab (PersonSet person) is brings =
    with_persons lab (with_person person lab.persons) is
    (set_legible person lab.persons brings is.persons)
change_legible lab (SessionAdded session) is brings =
    record { code = is.code; name = is.name; persons = is.persons; records = is.records }
change_legible lab (SessionSet session) is brings =
    record { code = is.code; name = is.name; persons = is.persons; records = is.records }
change_legible lab (SessionsClosed person closing) is brings =
    record { code = is.code; name = is.name; persons = is.persons; records = is.records }
change_legible lab (FormAdded form) is brings =
    record { code = is.code; name = is.name; persons = is.persons; records = is.records }
change_legible lab (RecordAdded kept) is brings =
    with_records lab (lab.records ++ kept ∷ []) is
    (All-push IsLegibleRecord lab.records kept is.records brings)
change_legible lab (RowAdded number row) is brings =
    with_records lab (in_record number (entered_in row) lab.records) is
    (record_legible number (entered_in row) lab.records
    (λ kept whole. with_versions kept (in_last (with_row row) kept.versions) whole
    (last_legible (with_row row) kept.versions (λ one all. row_legible row one brings all)
    whole.versions)) is.records)
change_legible lab (VersionOpened number version) is brings =
    with_records lab (in_record number (opened_in version) lab.records) is
    (record_legible number (opened_in version) lab.records
    (λ kept whole. with_versions kept (kept.versions ++ version ∷ []) whole
    (All-push IsLegibleVersion kept.versions version whole.versions brings)) is.records)
change_legible lab (SignatureAdded number version signature) is brings =
    with_records lab (in_record number (signed_in version signature) lab.records) is
    (record_legible number (signed_in version signature) lab.records
    (λ kept whole. with_versions kept
    (in_version version (with_signature signature) kept.versions) whole
    (version_legible version (with_signature signature) kept.versions
    (λ one all. signature_legible signature one brings all) whole.versions)) is.records)
change_legible lab (TrailAdded row) is brings =
    record { code = is.code; name = is.name; persons = is.persons; records = is.records }

-- legible changes leave a laboratory legible
pub changes_legible : (lab : Lab) (changes : List Change) → IsLegible lab →
    All IsLegibleChange changes → IsLegible (changed lab changes)
changes_legible lab [] is brings = is
changes_legible lab (one ∷ others) is brings =
    changes_legible (change lab one) others
    (change_legible lab one is (All-head IsLegibleChange one others brings))
    (All-tail IsLegibleChange one others brings)

-- ---- a birth

pub born_legible : (newborn : Newborn) → IsTrue (is_lab_code newborn.code) →
    IsTrue (is_name newborn.name) → IsLegiblePerson newborn.first →
    IsLegiblePerson newborn.second → IsLegiblePerson newborn.third →
    IsLegible (newborn_lab newborn)
born_legible newborn code name first second third = record {
  code = code;
  name = name;
  persons =
      added_legible newborn.third
      (added_person newborn.second (added_person newborn.first [])) third
      (added_legible newborn.second (added_person newborn.first []) second
      (added_legible newborn.first [] first (All-nil IsLegiblePerson)));
  records = All-nil IsLegibleRecord;
}

-- ---- who asks for a copy

found_by : (own : Bool) (one person : Person) (others : List Person) (rest : Option Person) →
    All IsLegiblePerson (one ∷ others) → cond own (Some one) rest ≡ Some person →
    (rest ≡ Some person → IsLegiblePerson person) → IsLegiblePerson person
found_by true one person others rest all is next =
    let same : one ≡ person = cc in
    subst IsLegiblePerson same (All-head IsLegiblePerson one others all)
found_by false one person others rest all is next = next is

found_legible : (persons : List Person) (code : List ℕ) (person : Person) →
    All IsLegiblePerson persons → person_of persons code ≡ Some person → IsLegiblePerson person
found_legible [] code person all is = absurd (cc)
found_legible (one ∷ others) code person all is =
    found_by (bytes_eq one.code code) one person others (person_of others code) all is
    (found_legible others code person (All-tail IsLegiblePerson one others all))

-- the caller of a legible laboratory has a person's code
pub caller_legible : (lab : Lab) (session : Option Session) (caller : Person) → IsLegible lab →
    caller_of lab session ≡ Some caller → IsLegiblePerson caller
caller_legible lab None caller is found = absurd (cc)
caller_legible lab (Some session) caller is found =
    found_legible lab.persons session.person caller is.persons found

-- ---- lines

lines_both : (one other : List Line) → AllByRecursion IsLine one → AllByRecursion IsLine other →
    AllByRecursion IsLine (one ++ other)
lines_both [] other first next = next
lines_both (line ∷ lines) other first next = (first.0, lines_both lines other first.1 next)

lines_each : {A : Type 0} (Holds : A → Type 0) (made : A → Line) (list : List A) →
    ((it : A) → Holds it → IsLine (made it)) → All Holds list →
    AllByRecursion IsLine (map made list)
lines_each Holds made [] says all = tt
lines_each Holds made (one ∷ others) says all = (
  says one (All-head Holds one others all),
  lines_each Holds made others says (All-tail Holds one others all),
)

lines_flat : {A : Type 0} (Holds : A → Type 0) (made : A → List Line) (list : List A) →
    ((it : A) → Holds it → AllByRecursion IsLine (made it)) → All Holds list →
    AllByRecursion IsLine (flat_map made list)
lines_flat Holds made [] says all = tt
lines_flat Holds made (one ∷ others) says all =
    lines_both (made one) (flat_map made others) (says one (All-head Holds one others all))
    (lines_flat Holds made others says (All-tail Holds one others all))

module _ (lab : List ℕ) (own : IsTrue (is_lab_code lab)) where
  entry_is : (kept : KeptRecord) (version : Version) → IsLegibleRecord kept →
      IsLegibleVersion version → (row : EntryRow) → IsRow row →
      IsEntryLine (entry_line lab kept version row)
  entry_is kept version is of row fits = record {
    lab = own;
    record_number = is.number;
    version = of.number;
    row = fits;
  }

  signature_is : (kept : KeptRecord) (version : Version) → IsLegibleRecord kept →
      IsLegibleVersion version → (signature : Signature) → IsLegibleSignature signature →
      IsSignatureLine (signature_line lab kept version signature)
  signature_is kept version is of signature fits = record {
    lab = own;
    record_number = is.number;
    version = of.number;
    meaning = fits.meaning;
    person = fits.person;
    name = fits.name;
    moment = fits.moment;
    digest = fits.digest;
    seal = fits.seal;
  }

  version_is : (kept : KeptRecord) → IsLegibleRecord kept → (version : Version) →
      IsLegibleVersion version → IsVersionLine (version_line lab kept version)
  version_is kept is version of = record {
    lab = own;
    record_number = is.number;
    number = of.number;
    opener = of.opener;
    opened = of.opened;
    reason = of.reason;
    digest = digest_is lab kept version;
  }

  version_lines_are : (kept : KeptRecord) → IsLegibleRecord kept → (version : Version) →
      IsLegibleVersion version → AllByRecursion IsLine (version_lines lab kept version)
  version_lines_are kept is version of =
      let entry : EntryRow → Line = λ row. line.Entry (entry_line lab kept version row) in
      let signed : Signature → Line =
      λ signature. line.Signature (signature_line lab kept version signature) in (
        version_is kept is version of,
        lines_both (map entry version.rows) (map signed version.signatures)
            (lines_each IsRow entry version.rows (entry_is kept version is of) of.rows)
            (lines_each IsLegibleSignature signed version.signatures
            (signature_is kept version is of) of.signatures),
      )

  record_is : (kept : KeptRecord) → IsLegibleRecord kept → IsRecordLine (record_line lab kept)
  record_is kept is = record {
    lab = own;
    record_number = is.number;
    form_version = is.form_version;
    form = is.form;
    sample = is.sample;
  }

  record_lines_are : (kept : KeptRecord) → IsLegibleRecord kept →
      AllByRecursion IsLine (record_lines lab kept)
  record_lines_are kept is = (
    record_is kept is,
    lines_flat IsLegibleVersion (version_lines lab kept) kept.versions
        (version_lines_are kept is) is.versions,
  )

  body_is : (records : List KeptRecord) → All IsLegibleRecord records →
      AllByRecursion IsLine (body_lines lab records)
  body_is records all =
      lines_flat IsLegibleRecord (record_lines lab) records record_lines_are all

-- ---- the records that are asked for

asked_by : (within : Bool) (kept : KeptRecord) (others rest : List KeptRecord) →
    All IsLegibleRecord (kept ∷ others) → All IsLegibleRecord rest →
    All IsLegibleRecord (cond within (kept ∷ rest) rest)
asked_by true kept others rest all more =
    All-cons IsLegibleRecord kept rest (All-head IsLegibleRecord kept others all) more
asked_by false kept others rest all more = more

asked_legible : (from to : ℕ) (records : List KeptRecord) → All IsLegibleRecord records →
    All IsLegibleRecord (records_within from to records)
asked_legible from to [] all = all
asked_legible from to (kept ∷ others) all =
    asked_by (is_within from to kept.number) kept others (records_within from to others) all
    (asked_legible from to others (All-tail IsLegibleRecord kept others all))

-- ---- the numbers of rows

fewer : {A B : Type 0} (h : A → Option B) (list : List A) →
    length (filter_map h list) ≤ length list
fewer {B = B} h [] = omega arith
fewer {B = B} h (one ∷ others) = by (h one) (fewer h others)
  where
    by : (found : Option B) → length (filter_map h others) ≤ length others →
        length (cons_option found (filter_map h others)) ≤ length (one ∷ others)
    by None few = omega (arith, few)
    by (Some it) few = omega (arith, few)

-- ---- a copy

-- what is in the copy of such a laboratory is what its types admit
pub lines_are : (lab : Lab) (order : CopyOrder) → IsCopiable lab → IsLegibleOrder order →
    AreLines lab order
lines_are lab order is asked =
    let records = records_within order.from order.to lab.records in
    let lines = body_lines lab.code records in
    let few : length lines ≤ last_count =
    omega (
      arith,
      few_within lab.code order.from order.to lab.records,
      is.within.records,
      few_of_records lab.code lab.records is.within.orderly is.dual,
    ) in (
      record {
        lab = is.legible.code;
        from = asked.from;
        to = asked.to;
        person = asked.person;
        name = is.legible.name;
        moment = asked.moment;
      },
      lines_both lines (line.End (end_line lab.code (counts_of lines)) ∷ [])
          (body_is lab.code is.legible.code records
          (asked_legible order.from order.to lab.records is.legible.records)) (
            record {
              lab = is.legible.code;
              records = omega (arith, few, fewer record_in lines);
              versions = omega (arith, few, fewer version_in lines);
              entries = omega (arith, few, fewer entry_in lines);
              signatures = omega (arith, few, fewer signature_in lines);
            },
            tt,
          ),
    )

pub all_give_sound_copies : AllGiveSoundCopies
all_give_sound_copies lab order is asked le =
    copies_are_sound lab order le is.bound is.dual is.within (lines_are lab order is asked)

-- ---- a copy that goes out

pub walks_so : (kept : Option Lab) → MatchOption kept (Unit {0}) IsCopiable →
    IfSome kept IsWalkable
walks_so None is = tt
walks_so (Some lab) is = all_can_be_walked lab is.within is.dual

-- what went out whole is a sound copy
pub sent_sound : {A F : Type 0} (order : CopyOrder) (kept : Option Lab) (lab : Lab)
    (before after : Option (List ℕ)) (result : Result A F) → kept ≡ Some lab →
    MatchOption kept (Unit {0}) IsCopiable → IsLegibleOrder order → order.from ≤ order.to →
    Sends before after (copy_text order kept) result →
    OnOk result (MatchOption kept ⊥ (SendsSound order before after))
sent_sound order kept lab before after (Err fault) there is asked le sent = tt
sent_sound order None lab before after (Ok done) there is asked le sent = absurd (cc)
sent_sound order (Some one) lab before after (Ok done) there is asked le sent =
    record { text = sent; sound = all_give_sound_copies one order is asked le }
