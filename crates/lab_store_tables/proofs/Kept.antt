-- What makes tables well kept beside the database's own rules, table by table: each row by itself and by those to which it
-- leads, and then what is said twice.
use Rattle.std.proofs.Common.{◌≡◌, ℕ, Bool, true, ◌&&◌, List, length, filter, int_eq}
use Rattle.std.specs.Prelude.{nat_le}
use Rattle.std.specs.List.{list_all, AllByRecursion}
use Rattle.std.proofs.lemmas.Bool.{and_parts, and_from}
use Rattle.sqlite_keyed.proofs.ListLemmas.{all_of, all_weaker, all_both, all_from_test, test_from_all}
use Rattle.lab_store_tables.specs.Rows.{PersonRow, RecordRow, VersionRow, SignatureRow, TrailRow, Tables}
use Rattle.lab_store_tables.specs.Family.{Name, Desk, Labs, Persons, Sessions, Forms, Fields, Choices, Records, Versions, Entries, Signatures, Trail, RowOf, rows}
use Rattle.lab_store_tables.specs.WellKept.{same_code, is_asked_within, is_session_within, is_record_within, is_version_within, is_entry_within, is_signature_within, is_told_within, are_labs_apart, are_all_numbered, has_counted, is_current, names_its_form, is_said_alike, is_whole_ask, has_due_reason, has_format, is_of_choice, are_columns_whole, IsPersonSpelled, IsFieldSpelled, IsSignatureSpelled, IsTrailSpelled, AreWellKept}
use Rattle.lab_store_tables.specs.ByRules.{IsByRules}

-- ---- words for all rows of a table

-- each row passes a test
abbrev pub Pass : {X : Type 0} → (X → Bool) → List X → Type 0
Pass test rows = AllByRecursion (λ one. test one ≡ true) rows

-- a row's number lies from 1 to the number of the rows beside it
abbrev pub is_numbered : {X : Type 0} → (X → X → Bool) → (X → ℕ) → List X → X → Bool
is_numbered beside number rows one = nat_le 1 (number one) && nat_le (number one) (length (filter (beside one) rows))

abbrev pub AreNumbered : {X : Type 0} → (X → X → Bool) → (X → ℕ) → List X → Type 0
AreNumbered beside number rows = Pass (is_numbered beside number rows) rows

-- ---- the rows beside a row, and its number among them

abbrev pub is_beside : (k : Name) → RowOf k → RowOf k → Bool
is_beside Sessions one other = int_eq other.lab one.lab
is_beside Forms one other = same_code one other
is_beside Fields one other = int_eq other.form one.form
is_beside Choices one other = int_eq other.field one.field
is_beside Records one other = int_eq other.lab one.lab
is_beside Versions one other = int_eq other.kept one.kept
is_beside Entries one other = int_eq other.version one.version
is_beside Signatures one other = int_eq other.version one.version
is_beside Trail one other = int_eq other.lab one.lab
is_beside _ one other = true

abbrev pub number_of : (k : Name) → RowOf k → ℕ
number_of Sessions one = one.number
number_of Forms one = one.version
number_of Fields one = one.place
number_of Choices one = one.place
number_of Records one = one.number
number_of Versions one = one.number
number_of Entries one = one.place
number_of Signatures one = one.place
number_of Trail one = one.number
number_of _ one = 0

-- in each table whose rows have numbers
abbrev pub AreNumberedIn : (k : Name) → List (RowOf k) → Type 0
AreNumberedIn Desk rows = Unit {0}
AreNumberedIn Labs rows = Unit {0}
AreNumberedIn Persons rows = Unit {0}
AreNumberedIn k rows = AreNumbered (is_beside k) (number_of k) rows

-- ---- a row of each table, whose arrows lead into the tables, and all of its rows

abbrev pub IsRowKept : (k : Name) → Tables → RowOf k → Type 0
IsRowKept Persons t one = (is_asked_within t one ≡ true) × (is_whole_ask one.ask ≡ true) × IsPersonSpelled one
IsRowKept Sessions t one = is_session_within t one ≡ true
IsRowKept Fields t one = IsFieldSpelled one
IsRowKept Choices t one = is_of_choice t one ≡ true
IsRowKept Records t one = (is_record_within t one ≡ true) × (names_its_form t one ≡ true)
IsRowKept Versions t one = (is_version_within t one ≡ true) × (has_due_reason one ≡ true) × (has_format one ≡ true)
IsRowKept Entries t one = is_entry_within t one ≡ true
IsRowKept Signatures t one = (is_signature_within t one ≡ true) × IsSignatureSpelled one
IsRowKept Trail t one = (is_told_within t one ≡ true) × IsTrailSpelled one
IsRowKept _ t one = Unit {0}

abbrev pub AreKept : (k : Name) → Tables → List (RowOf k) → Type 0
AreKept k t rows = AllByRecursion (IsRowKept k t) rows × AreNumberedIn k rows

pub record AreRowsKept (t : Tables) : Type 0 where
  pub at : (k : Name) → AreKept k t (rows k t)

-- ---- what is said twice: the counters of laboratories, and the current version of records

abbrev pub AreCounted : Tables → Type 0
AreCounted t = Pass (has_counted t) t.labs

abbrev pub AreCurrent : Tables → Type 0
AreCurrent t = Pass (is_current t) t.records

pub record AreAllKept (t : Tables) : Type 0 where
  pub rows : AreRowsKept t
  pub counters : AreCounted t
  pub currents : AreCurrent t

-- ---- the tests of well-kept tables, each by its table

within_parts : (t : Tables) → are_labs_apart t ≡ true
    → Pass (is_asked_within t) t.persons × Pass (is_session_within t) t.sessions × Pass (is_record_within t) t.records × Pass (is_version_within t) t.versions
    × Pass (is_entry_within t) t.entries × Pass (is_signature_within t) t.signatures × Pass (is_told_within t) t.trail
within_parts t apart =
    let told = and_parts _ _ apart in
    let signed = and_parts _ _ told.0 in
    let entered = and_parts _ _ signed.0 in
    let opened = and_parts _ _ entered.0 in
    let filed = and_parts _ _ opened.0 in
    let asked = and_parts _ _ filed.0 in (
      all_from_test (is_asked_within t) t.persons asked.0,
      all_from_test (is_session_within t) t.sessions asked.1,
      all_from_test (is_record_within t) t.records filed.1,
      all_from_test (is_version_within t) t.versions opened.1,
      all_from_test (is_entry_within t) t.entries entered.1,
      all_from_test (is_signature_within t) t.signatures signed.1,
      all_from_test (is_told_within t) t.trail told.1,
    )

number_parts : (t : Tables) → are_all_numbered t ≡ true
    → AreNumberedIn Sessions t.sessions × AreNumberedIn Forms t.forms × AreNumberedIn Fields t.fields × AreNumberedIn Choices t.choices
    × AreNumberedIn Records t.records × AreNumberedIn Versions t.versions × AreNumberedIn Entries t.entries × AreNumberedIn Signatures t.signatures
    × AreNumberedIn Trail t.trail
number_parts t numbered =
    let trail = and_parts _ _ numbered in
    let signatures = and_parts _ _ trail.0 in
    let entries = and_parts _ _ signatures.0 in
    let versions = and_parts _ _ entries.0 in
    let records = and_parts _ _ versions.0 in
    let choices = and_parts _ _ records.0 in
    let fields = and_parts _ _ choices.0 in
    let forms = and_parts _ _ fields.0 in
    let all = λ (k : Name) (h : list_all (is_numbered (is_beside k) (number_of k) (rows k t)) (rows k t) ≡ true). all_from_test (is_numbered (is_beside k) (number_of k) (rows k t)) (rows k t) h in (
      all Sessions forms.0,
      all Forms forms.1,
      all Fields fields.1,
      all Choices choices.1,
      all Records records.1,
      all Versions versions.1,
      all Entries entries.1,
      all Signatures signatures.1,
      all Trail trail.1,
    )

column_parts : (t : Tables) → are_columns_whole t ≡ true
    → Pass (λ (one : PersonRow). is_whole_ask one.ask) t.persons × Pass has_due_reason t.versions × Pass has_format t.versions × Pass (is_of_choice t) t.choices
column_parts t whole =
    let kinds = and_parts _ _ whole in
    let formats = and_parts _ _ kinds.0 in
    let reasons = and_parts _ _ formats.0 in (
      all_from_test (λ (one : PersonRow). is_whole_ask one.ask) t.persons reasons.0,
      all_from_test has_due_reason t.versions reasons.1,
      all_from_test has_format t.versions formats.1,
      all_from_test (is_of_choice t) t.choices kinds.1,
    )

alike_parts : (t : Tables) → is_said_alike t ≡ true → AreCounted t × AreCurrent t × Pass (names_its_form t) t.records
alike_parts t alike =
    let named = and_parts _ _ alike in
    let counted = and_parts _ _ named.0 in (
      all_from_test (has_counted t) t.labs counted.0,
      all_from_test (is_current t) t.records counted.1,
      all_from_test (names_its_form t) t.records named.1,
    )

-- three facts of each row, put together
all_three : {X : Type 0} (P Q R : X → Type 0) (rows : List X) → AllByRecursion P rows → AllByRecursion Q rows → AllByRecursion R rows
    → AllByRecursion (λ one. P one × Q one × R one) rows
all_three P Q R rows ps qs rs =
    all_both (λ one. P one × Q one) R (λ one. P one × Q one × R one) (λ one both r. (both.0, both.1, r)) rows
    (all_both P Q (λ one. P one × Q one) (λ one p q. (p, q)) rows ps qs) rs

kept_at : (t : Tables) → AreWellKept t → (k : Name) → AreKept k t (rows k t)
kept_at t well Persons = (
  all_three (λ (one : PersonRow). is_asked_within t one ≡ true) (λ (one : PersonRow). is_whole_ask one.ask ≡ true) IsPersonSpelled t.persons
      (within_parts t well.labs_apart).0 (column_parts t well.columns).0 well.persons,
  tt,
)
kept_at t well Sessions = ((within_parts t well.labs_apart).1, (number_parts t well.numbered).0)
kept_at t well Forms = (all_of (IsRowKept Forms t) (λ _. tt) t.forms, (number_parts t well.numbered).1)
kept_at t well Fields = (well.fields, (number_parts t well.numbered).2)
kept_at t well Choices = ((column_parts t well.columns).3, (number_parts t well.numbered).3)
kept_at t well Records = (
  all_both (λ (one : RecordRow). is_record_within t one ≡ true) (λ (one : RecordRow). names_its_form t one ≡ true) (IsRowKept Records t) (λ one p q. (p, q))
      t.records (within_parts t well.labs_apart).2 (alike_parts t well.alike).2,
  (number_parts t well.numbered).4,
)
kept_at t well Versions = (
  all_three (λ (one : VersionRow). is_version_within t one ≡ true) (λ (one : VersionRow). has_due_reason one ≡ true)
      (λ (one : VersionRow). has_format one ≡ true) t.versions
      (within_parts t well.labs_apart).3 (column_parts t well.columns).1 (column_parts t well.columns).2,
  (number_parts t well.numbered).5,
)
kept_at t well Entries = ((within_parts t well.labs_apart).4, (number_parts t well.numbered).6)
kept_at t well Signatures = (
  all_both (λ (one : SignatureRow). is_signature_within t one ≡ true) IsSignatureSpelled (IsRowKept Signatures t) (λ one p q. (p, q)) t.signatures
      (within_parts t well.labs_apart).5 well.signatures,
  (number_parts t well.numbered).7,
)
kept_at t well Trail = (
  all_both (λ (one : TrailRow). is_told_within t one ≡ true) IsTrailSpelled (IsRowKept Trail t) (λ one p q. (p, q)) t.trail
      (within_parts t well.labs_apart).6 well.trail,
  (number_parts t well.numbered).8,
)
kept_at t well k = (all_of (IsRowKept k t) (λ _. tt) (rows k t), tt)

pub rows_kept : (t : Tables) → AreWellKept t → AreRowsKept t
rows_kept t well = record { at = kept_at t well }

pub all_kept : (t : Tables) → AreWellKept t → AreAllKept t
all_kept t well = record {
  rows = rows_kept t well;
  counters = (alike_parts t well.alike).0;
  currents = (alike_parts t well.alike).1;
}

-- and together again
module _ (t : Tables) (kept : AreRowsKept t) where
  facts : (k : Name) (P : RowOf k → Type 0) → ((one : RowOf k) → IsRowKept k t one → P one) → AllByRecursion P (rows k t)
  facts k P f = all_weaker (IsRowKept k t) P f (rows k t) (kept.at k).0

  passes : (k : Name) (test : RowOf k → Bool) → ((one : RowOf k) → IsRowKept k t one → test one ≡ true) → list_all test (rows k t) ≡ true
  passes k test f = test_from_all test (rows k t) (facts k (λ one. test one ≡ true) f)

  within_whole : are_labs_apart t ≡ true
  within_whole =
      and_from _ _ (and_from _ _ (and_from _ _ (and_from _ _ (and_from _ _ (and_from _ _ (passes Persons (is_asked_within t) (λ one h. h.0))
      (passes Sessions (is_session_within t) (λ one h. h)))
      (passes Records (is_record_within t) (λ one h. h.0)))
      (passes Versions (is_version_within t) (λ one h. h.0)))
      (passes Entries (is_entry_within t) (λ one h. h)))
      (passes Signatures (is_signature_within t) (λ one h. h.0)))
      (passes Trail (is_told_within t) (λ one h. h.0))

  numbers : (k : Name) → AreNumbered (is_beside k) (number_of k) (rows k t) → list_all (is_numbered (is_beside k) (number_of k) (rows k t)) (rows k t) ≡ true
  numbers k h = test_from_all (is_numbered (is_beside k) (number_of k) (rows k t)) (rows k t) h

  numbers_whole : are_all_numbered t ≡ true
  numbers_whole =
      and_from _ _ (and_from _ _ (and_from _ _ (and_from _ _ (and_from _ _ (and_from _ _ (and_from _ _ (and_from _ _ (numbers Sessions (kept.at Sessions).1)
      (numbers Forms (kept.at Forms).1))
      (numbers Fields (kept.at Fields).1))
      (numbers Choices (kept.at Choices).1))
      (numbers Records (kept.at Records).1))
      (numbers Versions (kept.at Versions).1))
      (numbers Entries (kept.at Entries).1))
      (numbers Signatures (kept.at Signatures).1))
      (numbers Trail (kept.at Trail).1)

  columns_whole : are_columns_whole t ≡ true
  columns_whole =
      and_from _ _ (and_from _ _ (and_from _ _ (passes Persons (λ (one : PersonRow). is_whole_ask one.ask) (λ one h. h.1))
      (passes Versions has_due_reason (λ one h. h.1)))
      (passes Versions has_format (λ one h. h.2)))
      (passes Choices (is_of_choice t) (λ one h. h))

  alike_whole : AreCounted t → AreCurrent t → is_said_alike t ≡ true
  alike_whole counters currents =
      and_from _ _ (and_from _ _ (test_from_all (has_counted t) t.labs counters)
      (test_from_all (is_current t) t.records currents))
      (passes Records (names_its_form t) (λ one h. h.1))

pub well_kept : (t : Tables) → IsByRules t → AreAllKept t → AreWellKept t
well_kept t rules kept = record {
  ids = rules.ids;
  keys = rules.keys;
  arrows = rules.arrows;
  labs_apart = within_whole t kept.rows;
  numbered = numbers_whole t kept.rows;
  alike = alike_whole t kept.rows kept.counters kept.currents;
  columns = columns_whole t kept.rows;
  persons = facts t kept.rows Persons IsPersonSpelled (λ one h. h.2);
  fields = facts t kept.rows Fields IsFieldSpelled (λ one h. h);
  signatures = facts t kept.rows Signatures IsSignatureSpelled (λ one h. h.1);
  trail = facts t kept.rows Trail IsTrailSpelled (λ one h. h.1);
}
