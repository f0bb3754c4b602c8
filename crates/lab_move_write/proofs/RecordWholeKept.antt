-- A record more, whole, with all its versions, their rows and their signatures: the tables stay well kept.
use Rattle.std.proofs.Common.{◌≡◌, ◌⊎◌, ◌≤◌, inl, inr, ℕ, suc, ◌+◌, ℤ, Bool, true, false, ◌&&◌, ◌||◌, ◌==◌, cond, List, [], ◌∷◌, filter, length, Option, Some, None, option_map, option_and_then, is_some, is_none, refl, sym, ap, ap₂, subst, ◌∙◌, arith, int_eq}
use Rattle.std.specs.Prelude.{nat_le, ⊤}
use Rattle.std.specs.List.{AllByRecursion, list_all}
use Rattle.std.proofs.lemmas.Bool.{and_from, eq-eqb, le-leb}
use Rattle.sqlite_keyed.specs.Keyed.{get_by, insert_by}
use Rattle.sqlite_keyed.proofs.ListLemmas.{all_both, all_from_test, test_from_all}
use Rattle.sqlite_keyed.proofs.KeyedLemmas.{all-insert_by}
use Rattle.lab_seal_versions.specs.declared.origins.Amendment.{Amendment}
use Rattle.lab_seal_versions.specs.declared.rows.EntryRow.{EntryRow as Entry}
use Rattle.lab_seal_versions.specs.declared.versions.Format.{Format}
use Rattle.lab_seal_versions.specs.declared.versions.Format.TheVariants.{One, Two}
use Rattle.lab_records_kept.specs.declared.records.Record.{Record}
use Rattle.lab_records_kept.specs.declared.records.Version.{Version}
use Rattle.lab_records_kept.specs.declared.records.Signature.{Signature}
use Rattle.lab_records_kept.specs.Bound.{IsChain}
use Rattle.lab_records_kept.specs.Digests.{digest_of}
use Rattle.lab_records_kept.specs.Limits.{AreNumberedAfter}
use Rattle.lab_store_tables.specs.Rows.{LabRow, RecordRow, VersionRow, EntryRow, SignatureRow, Tables, person_id, record_id, version_id}
use Rattle.lab_store_tables.specs.Columns.{format_number}
use Rattle.lab_store_tables.specs.Meaning.{lab_in, record_in, by_record}
use Rattle.lab_store_tables.specs.WellKept.{have_own_ids, lab_of_person, lab_of_form, lab_of_record, lab_of_version, has_counted, is_current, AreWellKept}
use Rattle.lab_store_tables.specs.Family.{Records, Versions}
use Rattle.lab_store_tables.specs.Changes.{IsFree, InTurn, form_named, record_row_of, put_record, AddsEntry, AddsSignature, version_row_of, put_version, AddsVersion, AddsRecord, in_lab}
use Rattle.lab_store_tables.proofs.LabLaws.{alike}
use Rattle.lab_store_tables.specs.ByRules.{IsByRules}
use Rattle.lab_store_tables.proofs.Kept.{AreRowsKept, AreCounted, AreCurrent, AreAllKept, all_kept, well_kept}
use Rattle.lab_store_tables.proofs.PutRows.{count_put, new_found}
use Rattle.lab_store_tables.proofs.FreeIds.{none_has, none_leads}
use Rattle.lab_store_tables.proofs.Ids.{own_ids, versions_lead}
use Rattle.lab_store_tables.proofs.Named.{of_same, named_lab, form_lab, form_code}
use Rattle.lab_store_tables.proofs.Puts.{put_kept}
use Rattle.lab_store_tables.proofs.Sets.{lab_set}
use Rattle.lab_store_tables.proofs.Counters.{records_counted}
use Rattle.lab_store_tables.proofs.Shown.{as_many}
use Rattle.lab_store_tables.proofs.EntryKept.{signature_more}
use Rattle.lab_store_tables.proofs.VersionKept.{HasVersion, entries_more}
use Rattle.lab_store_tables.proofs.Turns.{turns_leave, turns_keep}
use Rattle.lab_move_write.proofs.Wholes.{IsWholeRecord}
use Rattle.lab_move_write.proofs.VersionsInTurn.{number_in}
use Rattle.lab_store_tables.proofs.OneRow.{turned}

-- ---- a first version has no reason, and every other one has

abbrev due : ℕ → Option Amendment → Bool
due number amendment =
    ((number == 1) && is_none (option_map (λ (it : Amendment). it.reason) amendment))
    || (nat_le 2 number && is_some (option_map (λ (it : Amendment). it.reason) amendment))

abbrev before_of : Option Amendment → Option (List ℕ)
before_of amendment = option_map (λ (it : Amendment). it.previous) amendment

due_first : (number : ℕ) (amendment : Option Amendment) → number ≡ 1 → before_of amendment ≡ None → due number amendment ≡ true
due_first number None one none = ap (λ n. due n None) one
due_first number (Some it) one none = absurd cc

either : (b c : Bool) → c ≡ true → ((b && false) || (c && true)) ≡ true
either true c e = ap (λ c. c && true) e
either false c e = ap (λ c. c && true) e

due_later : (number : ℕ) (amendment : Option Amendment) (digest : List ℕ) → 2 ≤ number → before_of amendment ≡ Some digest → due number amendment ≡ true
due_later number None digest more some = absurd cc
due_later number (Some it) digest more some = either (number == 1) (nat_le 2 number) (le-leb 2 number more)

-- so many versions stand before, and this is what a next one amends
abbrev pub Stand : ℕ → Option (List ℕ) → Type 0
Stand count before = ((count ≡ 0) × (before ≡ None)) ⊎ ((1 ≤ count) × (digest : List ℕ) × (before ≡ Some digest))

reason_due : (count number : ℕ) (before : Option (List ℕ)) (amendment : Option Amendment) → Stand count before → number ≡ count + 1
    → before_of amendment ≡ before → due number amendment ≡ true
reason_due count number before amendment (inl none) next is = due_first number amendment (next ∙ ap (λ n. n + 1) none.0) (is ∙ none.1)
reason_due count number before amendment (inr some) next is =
    let least = some.0 in due_later number amendment some.1 (omega (arith, least, next)) (is ∙ some.2)

format_known : (format : Format) → ((format_number format == 1) || (format_number format == 2)) ≡ true
format_known One = refl
format_known (Two said) = refl

-- ---- tables that have the record in the laboratory

pub record HaveRecord (lab kept : ℤ) (t : Tables) : Type 0 where
  pub persons : have_own_ids person_id t.persons ≡ true
  pub its : lab_of_record t kept ≡ Some lab
  pub rows : AreRowsKept t

abbrev Anything : Tables → Type 0
Anything t = ⊤

one_signature_more : (lab version : ℤ) (signature : Signature) (old new : Tables) → AddsSignature lab version signature old new
    → HasVersion lab version Anything old → HasVersion lab version Anything new
one_signature_more lab version signature old new it held =
    subst (HasVersion lab version Anything) (sym it.made) (record {
      persons = held.persons;
      its = held.its;
      rows = signature_more old held.persons lab version held.its it.id it.person signature it.free it.named held.rows;
      beside = tt;
    })

entry_reads : {B : Type 0} (read : Tables → B) → ((t : Tables) (entries : List EntryRow) → read (record t { entries = entries }) ≡ read t)
    → (lab version : ℤ) (one : Entry) (old new : Tables) → AddsEntry lab version one old new → read new ≡ read old
entry_reads read blind lab version one old new it = ap read it.made ∙ blind old _

signature_reads : {B : Type 0} (read : Tables → B) → ((t : Tables) (signatures : List SignatureRow) → read (record t { signatures = signatures }) ≡ read t)
    → (lab version : ℤ) (one : Signature) (old new : Tables) → AddsSignature lab version one old new → read new ≡ read old
signature_reads read blind lab version one old new it = ap read it.made ∙ blind old _

-- ---- a version more

module _ (t : Tables) (lab kept : ℤ) (held : HaveRecord lab kept t) (version : Version) (opened : Tables) (added : AddsVersion lab kept version t opened)
    (next : version.origin.number ≡ length (filter (λ (one : VersionRow). int_eq one.kept kept) t.versions) + 1)
    (reason : due version.origin.number version.origin.amendment ≡ true) where
  abbrev new : VersionRow
  new = version_row_of kept added.id added.opener version

  abbrev start : Tables
  start = put_version new t

  start_rows : AreRowsKept start
  start_rows =
      put_kept Versions t new added.free (
        of_same (lab_of_person t added.opener) (lab_of_record t kept) lab (named_lab t held.persons lab version.opener added.opener added.named) held.its,
        reason,
        format_known version.format,
      ) next held.rows

  start_its : lab_of_version start added.id ≡ Some lab
  start_its =
      ap (option_and_then (λ (one : VersionRow). lab_of_record start one.kept)) (new_found version_id new t.versions added.free) ∙ held.its

  signed : HasVersion lab added.id Anything opened
  signed =
      turns_keep (AddsSignature lab added.id) (HasVersion lab added.id Anything) (one_signature_more lab added.id) version.signatures added.entered opened added.signatures
      (entries_more lab added.id Anything (λ row u h. h) version.rows start added.entered added.rows (record {
        persons = held.persons;
        its = start_its;
        rows = start_rows;
        beside = tt;
      }))

  -- what neither an entry nor a signature touches
  reads : {B : Type 0} (read : Tables → B) → ((u : Tables) (entries : List EntryRow) → read (record u { entries = entries }) ≡ read u)
      → ((u : Tables) (signatures : List SignatureRow) → read (record u { signatures = signatures }) ≡ read u) → read opened ≡ read start
  reads read blind too =
      turns_leave (AddsSignature lab added.id) read (signature_reads read too lab added.id) version.signatures added.entered opened added.signatures
      ∙ turns_leave (AddsEntry lab added.id) read (entry_reads read blind lab added.id) version.rows start added.entered added.rows

  pub version_kept : HaveRecord lab kept opened
  version_kept = record {
    persons = signed.persons;
    its = ap (λ (rows : List RecordRow). option_map (λ (one : RecordRow). one.lab) (get_by record_id rows kept))
        (reads (λ (u : Tables). u.records) (λ u entries. refl) (λ u signatures. refl)) ∙ held.its;
    rows = signed.rows;
  }

  pub versions_counted : (of : ℤ) → length (filter (λ (one : VersionRow). int_eq one.kept of) opened.versions)
      ≡ length (filter (λ (one : VersionRow). int_eq one.kept of) t.versions) + cond (int_eq kept of) 1 0
  versions_counted of =
      ap (λ (rows : List VersionRow). length (filter (λ (one : VersionRow). int_eq one.kept of) rows))
      (reads (λ (u : Tables). u.versions) (λ u entries. refl) (λ u signatures. refl))
      ∙ count_put version_id new (λ (one : VersionRow). int_eq one.kept of) t.versions added.free

-- ---- and all of them

pub record AreVersionsKept (lab kept : ℤ) (versions : List Version) (t new : Tables) : Type 0 where
  pub held : HaveRecord lab kept new
  pub counted : (of : ℤ) → length (filter (λ (one : VersionRow). int_eq one.kept of) new.versions)
      ≡ length (filter (λ (one : VersionRow). int_eq one.kept of) t.versions) + cond (int_eq kept of) (length versions) 0

cond_more : (b : Bool) (a c d n : ℕ) → c ≡ a + cond b 1 0 → d ≡ c + cond b n 0 → d ≡ a + cond b (suc n) 0
cond_more true a c d n one more = omega (arith, one, more)
cond_more false a c d n one more = omega (arith, one, more)

cond_none : (b : Bool) (a : ℕ) → a ≡ a + cond b 0 0
cond_none true a = omega arith
cond_none false a = omega arith

pub versions_kept : (code : List ℕ) (whole : Record) (lab kept : ℤ) (versions : List Version) (count : ℕ) (before : Option (List ℕ)) (t new : Tables)
    → HaveRecord lab kept t → length (filter (λ (one : VersionRow). int_eq one.kept kept) t.versions) ≡ count → Stand count before
    → AreNumberedAfter number_in count versions → IsChain code whole before versions → InTurn (AddsVersion lab kept) versions t new
    → AreVersionsKept lab kept versions t new
versions_kept code whole lab kept [] count before t new held counts stand numbered chain it = record {
  held = subst (HaveRecord lab kept) (sym it) held;
  counted = λ of. ap (λ (u : Tables). length (filter (λ (one : VersionRow). int_eq one.kept of) u.versions)) it
      ∙ cond_none (int_eq kept of) (length (filter (λ (one : VersionRow). int_eq one.kept of) t.versions));
}
versions_kept code whole lab kept (one ∷ others) count before t new held counts stand numbered chain it =
    let next : one.origin.number ≡ length (filter (λ (x : VersionRow). int_eq x.kept kept) t.versions) + 1 = numbered.0 ∙ ap (λ n. n + 1) (sym counts) in
    let reason = reason_due count one.origin.number before one.origin.amendment stand numbered.0 chain.0 in
    let held_more = version_kept t lab kept held one it.0 it.1 next reason in
    let more = versions_counted t lab kept held one it.0 it.1 next reason in
    let here : length (filter (λ (x : VersionRow). int_eq x.kept kept) it.0.versions) ≡ count + 1 =
    more kept ∙ ap₂ (λ n b. n + cond b 1 0) counts (alike kept kept refl) in
    let rest = versions_kept code whole lab kept others (count + 1) (Some (digest_of code whole one)) it.0 new held_more here
    (inr (omega arith, digest_of code whole one, refl)) numbered.1 chain.1 it.2 in
    record {
      held = rest.held;
      counted = λ of. cond_more (int_eq kept of) (length (filter (λ (x : VersionRow). int_eq x.kept of) t.versions))
          (length (filter (λ (x : VersionRow). int_eq x.kept of) it.0.versions)) (length (filter (λ (x : VersionRow). int_eq x.kept of) new.versions)) (length others)
          (more of) (rest.counted of);
    }

-- ---- the record

module _ (t : Tables) (well : AreWellKept t) (row : LabRow) (kept : Record) (whole : IsWholeRecord (lab_in t row) kept)
    (id : ℤ) (free : IsFree record_id t.records id) (form : ℤ) (named : form_named t row.id kept.form.code kept.form.version ≡ Some form) where
  abbrev new_record : RecordRow
  new_record = record_row_of row.id id form kept

  abbrev with_record : Tables
  with_record = in_lab row.id (λ (one : LabRow). record one { records = kept.number }) (put_record new_record t)

  its_number : kept.number ≡ length (filter (λ (one : RecordRow). int_eq one.lab row.id) t.records) + 1
  its_number = whole.number ∙ ap (λ n. n + 1) (as_many by_record (record_in t row.code) (filter (λ (one : RecordRow). int_eq one.lab row.id) t.records))

  record_rows : AreRowsKept with_record
  record_rows =
      lab_set (put_record new_record t) row.id (λ (one : LabRow). record one { records = kept.number })
      (put_kept Records t new_record free (
        of_same (lab_of_form t form) (Some row.id) row.id (form_lab t (own_ids t well.ids).forms row.id kept.form.code kept.form.version form named) refl,
        form_code t (own_ids t well.ids).forms row.id kept.form.code kept.form.version form named,
      ) its_number (all_kept t well).rows)

  record_counts : AreCounted with_record
  record_counts = records_counted t new_record free its_number (all_kept t well).counters

  -- no version is of the new record yet
  none_yet : filter (λ (one : VersionRow). int_eq one.kept id) t.versions ≡ []
  none_yet = none_leads record_id t.records (λ (one : VersionRow). one.kept) t.versions id free (versions_lead t well.arrows)

  has_record : HaveRecord row.id id with_record
  has_record = record {
    persons = (own_ids t well.ids).persons;
    its = ap (option_map (λ (x : RecordRow). x.lab)) (new_found record_id new_record t.records free);
    rows = record_rows;
  }

  module _ (new : Tables) (turns : InTurn (AddsVersion row.id id) kept.versions with_record new) where
    it : AreVersionsKept row.id id kept.versions with_record new
    it =
        versions_kept row.code kept row.id id kept.versions 0 None with_record new has_record (ap (λ (list : List VersionRow). length list) none_yet)
        (inl (refl, refl)) whole.numbered whole.chain turns

    -- what no version touches
    version_reads : {B : Type 0} (read : Tables → B) → ((u : Tables) (versions : List VersionRow) → read (record u { versions = versions }) ≡ read u)
        → ((u : Tables) (entries : List EntryRow) → read (record u { entries = entries }) ≡ read u)
        → ((u : Tables) (signatures : List SignatureRow) → read (record u { signatures = signatures }) ≡ read u)
        → (one : Version) (old u : Tables) → AddsVersion row.id id one old u → read u ≡ read old
    version_reads read first second third one old u added =
        turns_leave (AddsSignature row.id added.id) read (signature_reads read third row.id added.id) one.signatures added.entered u added.signatures
        ∙ turns_leave (AddsEntry row.id added.id) read (entry_reads read second row.id added.id) one.rows
        (put_version (version_row_of id added.id added.opener one) old) added.entered added.rows
        ∙ first old _

    counted : AreCounted new
    counted =
        let same : list_all (has_counted new) new.labs ≡ list_all (has_counted with_record) with_record.labs =
        turns_leave (AddsVersion row.id id) (λ (u : Tables). list_all (has_counted u) u.labs)
        (version_reads (λ (u : Tables). list_all (has_counted u) u.labs) (λ u versions. refl) (λ u entries. refl) (λ u signatures. refl))
        kept.versions with_record new turns in
        all_from_test (has_counted new) new.labs (same ∙ test_from_all (has_counted with_record) with_record.labs record_counts)

    records_are : new.records ≡ insert_by record_id t.records new_record
    records_are =
        turns_leave (AddsVersion row.id id) (λ (u : Tables). u.records)
        (version_reads (λ (u : Tables). u.records) (λ u versions. refl) (λ u entries. refl) (λ u signatures. refl)) kept.versions with_record new turns

    own_current : is_current new new_record ≡ true
    own_current =
        let grown : length (filter (λ (x : VersionRow). int_eq x.kept id) new.versions) ≡ 0 + length kept.versions = it.counted id
        ∙ ap₂ (λ n b. n + cond b (length kept.versions) 0) (ap (λ (list : List VersionRow). length list) none_yet) (alike id id refl) in
        let count : length (filter (λ (x : VersionRow). int_eq x.kept id) new.versions) ≡ length kept.versions = omega (arith, grown) in
        let some = whole.some in
        and_from (nat_le 1 (length kept.versions)) (length kept.versions == length (filter (λ (x : VersionRow). int_eq x.kept id) new.versions))
        (le-leb 1 (length kept.versions) some) (eq-eqb (length kept.versions) (length (filter (λ (x : VersionRow). int_eq x.kept id) new.versions)) (sym count))

    other_current : (one : RecordRow) → int_eq one.id id ≡ false → is_current t one ≡ true → is_current new one ≡ true
    other_current one other held =
        let count : length (filter (λ (x : VersionRow). int_eq x.kept one.id) new.versions) ≡ length (filter (λ (x : VersionRow). int_eq x.kept one.id) t.versions) + 0 =
        it.counted one.id ∙ ap (λ b. length (filter (λ (x : VersionRow). int_eq x.kept one.id) t.versions) + cond b (length kept.versions) 0) (turned one.id id other) in
        let same : length (filter (λ (x : VersionRow). int_eq x.kept one.id) new.versions) ≡ length (filter (λ (x : VersionRow). int_eq x.kept one.id) t.versions) =
        omega (arith, count) in
        ap (λ n. nat_le 1 one.current && (one.current == n)) same ∙ held

    currents : AreCurrent new
    currents =
        subst (λ rows. AllByRecursion (λ (one : RecordRow). is_current new one ≡ true) rows) (sym records_are)
        (all-insert_by record_id (λ (one : RecordRow). is_current new one ≡ true) t.records new_record own_current
        (all_both (λ (one : RecordRow). int_eq one.id id ≡ false) (λ (one : RecordRow). is_current t one ≡ true)
        (λ (one : RecordRow). is_current new one ≡ true) other_current t.records
        (none_has record_id t.records id free) (all_kept t well).currents))

    pub record_kept : AreAllKept new
    record_kept = record { rows = it.held.rows; counters = counted; currents = currents }

pub record_keeps : (old new : Tables) (row : LabRow) (kept : Record) → AreWellKept old → IsByRules new → IsWholeRecord (lab_in old row) kept
    → AddsRecord row.id kept old new → AreWellKept new
record_keeps old new row kept well rules whole added =
    well_kept new rules (record_kept old well row kept whole added.id added.free added.form added.named new added.versions)
