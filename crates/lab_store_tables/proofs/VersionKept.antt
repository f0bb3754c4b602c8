-- A version more of a record, with its rows, which is then the current one: the tables stay well kept.
use Rattle.std.proofs.Common.{◌≡◌, ◌≤◌, ℕ, ◌+◌, ◌-◌, ℤ, Bool, true, false, ◌&&◌, ◌||◌, ◌==◌, cond, List, [], ◌∷◌, filter, length, Option, Some, None, option_map, option_and_then, is_some, is_none, refl, sym, ap, subst, ◌∙◌, arith, int_eq}
use Rattle.std.specs.Prelude.{nat_le}
use Rattle.std.specs.List.{AllByRecursion}
use Rattle.std.proofs.lemmas.Bool.{and_parts, and_from, or_right, le-leb, eqb-true, eq-eqb}
use Rattle.sqlite_rules.specs.Lists.{Has}
use Rattle.sqlite_rules.proofs.ListLemmas.{all_has, has_found}
use Rattle.sqlite_keyed.specs.Keyed.{insert_by}
use Rattle.sqlite_keyed.specs.Rules.{AreApart}
use Rattle.sqlite_keyed.proofs.ListLemmas.{all_weaker, all_map, all-slice_get}
use Rattle.sqlite_keyed.proofs.KeyedLemmas.{same_int}
use Rattle.lab_seal_versions.specs.declared.rows.EntryRow.{EntryRow as Entry}
use Rattle.lab_seal_versions.specs.declared.origins.Amendment.{Amendment}
use Rattle.lab_records_kept.specs.declared.records.Record.{Record}
use Rattle.lab_records_kept.specs.declared.records.Version.{Version}
use Rattle.lab_records_kept.specs.declared.records.Signature.{Signature}
use Rattle.lab_records_kept.specs.declared.changes.Change.TheVariants.{VersionOpened}
use Rattle.lab_records_kept.specs.Lookups.{has_number, record_of, last_of}
use Rattle.lab_records_kept.specs.Digests.{previous_of, digest_of}
use Rattle.lab_records_kept.specs.Changes.{IsOfForm, IsNewVersion, ChangesFit}
use Rattle.lab_store_tables.specs.Rows.{RecordRow, VersionRow, EntryRow, Tables, person_id, version_id}
use Rattle.lab_store_tables.specs.Columns.{format_number}
use Rattle.lab_store_tables.specs.Meaning.{Leaf, lab_in, meaning, leaf_in, by_version, leaves_of, version_after, chained, cover_in, record_in, by_record, records_of}
use Rattle.lab_store_tables.specs.WellKept.{have_own_ids, lab_of_person, lab_of_record, lab_of_version, same_record, same_version, is_current, has_due_reason, has_format, AreWellKept}
use Rattle.lab_store_tables.specs.Family.{Versions}
use Rattle.lab_store_tables.specs.Changes.{IsFree, InTurn, person_named, record_named, entry_row_of, put_entry, AddsEntry, AddsSignature, version_row_of, put_version, set_current, Applies}
use Rattle.lab_store_tables.proofs.Bridges.{apart_from_test}
use Rattle.lab_store_tables.proofs.LabLaws.{alike}
use Rattle.lab_store_tables.specs.ByRules.{IsByRules}
use Rattle.lab_store_tables.proofs.Kept.{is_numbered, is_beside, number_of, AreRowsKept, AreCounted, AreCurrent, AreAllKept, rows_kept, all_kept, well_kept}
use Rattle.lab_store_tables.proofs.PutRows.{within_to, new_found}
use Rattle.lab_store_tables.proofs.NextNumber.{next_number}
use Rattle.lab_store_tables.proofs.Ids.{own_ids, own_keys}
use Rattle.lab_store_tables.proofs.Named.{same_key, of_same, named_lab, record_there, record_is_of, record_lab}
use Rattle.lab_store_tables.proofs.Puts.{put_kept}
use Rattle.lab_store_tables.proofs.Sets.{current_set}
use Rattle.lab_store_tables.proofs.Counters.{counter_follows, current_counted}
use Rattle.lab_store_tables.proofs.Shown.{IsShown, all_shown, matched, fits_here}
use Rattle.lab_store_tables.proofs.EntryKept.{entry_more}
use Rattle.lab_store_tables.proofs.Turns.{turns_leave, turns_keep}

-- ---- the rows of a version, one after the other

-- tables that have the version in the laboratory, and of which something holds that no entry touches
pub record HasVersion (lab version : ℤ) (Beside : Tables → Type 0) (t : Tables) : Type 0 where
  pub persons : have_own_ids person_id t.persons ≡ true
  pub its : lab_of_version t version ≡ Some lab
  pub rows : AreRowsKept t
  pub beside : Beside t

module _ (lab version : ℤ) (Beside : Tables → Type 0) (untouched : (row : EntryRow) (t : Tables) → Beside t → Beside (put_entry row t)) where
  one_entry_more : (entry : Entry) (old new : Tables) → AddsEntry lab version entry old new → HasVersion lab version Beside old
      → HasVersion lab version Beside new
  one_entry_more entry old new it held =
      subst (HasVersion lab version Beside) (sym it.made) (record {
        persons = held.persons;
        its = held.its;
        rows = entry_more old held.persons lab version held.its it.id it.person entry it.free it.named held.rows;
        beside = untouched (entry_row_of old version it.id it.person entry) old held.beside;
      })

  pub entries_more : (entries : List Entry) (old new : Tables) → InTurn (AddsEntry lab version) entries old new → HasVersion lab version Beside old
      → HasVersion lab version Beside new
  entries_more entries old new turns held = turns_keep (AddsEntry lab version) (HasVersion lab version Beside) one_entry_more entries old new turns held

entry_leaves : (lab version : ℤ) (entry : Entry) (old new : Tables) → AddsEntry lab version entry old new → new.versions ≡ old.versions
entry_leaves lab version entry old new it = ap (λ (t : Tables). t.versions) it.made

-- where there is no signature, nothing is signed
nothing_signed : (lab version : ℤ) (signatures : List Signature) → signatures ≡ [] → (old new : Tables) → InTurn (AddsSignature lab version) signatures old new
    → new ≡ old
nothing_signed lab version signatures none old new turns = subst (λ (list : List Signature). InTurn (AddsSignature lab version) list old new) none turns

-- ---- the number of a version that fits

-- what holds of the number of each leaf holds of the number of each version
numbers_chained : (P : ℕ → Type 0) (lab : List ℕ) (kept : Record) (before : Option (List ℕ)) (leaves : List Leaf)
    → AllByRecursion (λ (leaf : Leaf). P leaf.number) leaves
    → AllByRecursion (λ (version : Version). P version.origin.number) (chained lab kept before leaves)
numbers_chained P lab kept before [] all = tt
numbers_chained P lab kept before (one ∷ others) all =
    (all.0, numbers_chained P lab kept (Some (digest_of lab kept (version_after kept before one))) others all.1)

abbrev pub IsNumbered : Tables → ℤ → ℕ → Type 0
IsNumbered t kept number = (row : VersionRow) × Has t.versions row × (row.kept ≡ kept) × (number ≡ row.number)

numbers_of : (t : Tables) (kept : ℤ) → AllByRecursion (λ (leaf : Leaf). IsNumbered t kept leaf.number) (leaves_of t kept)
numbers_of t kept =
    all_weaker (IsShown (leaf_in t) (λ (one : VersionRow). int_eq one.kept kept) t.versions) (λ (leaf : Leaf). IsNumbered t kept leaf.number)
    (λ leaf it. (it.0, it.1, same_int it.0.kept kept it.2, ap (λ (x : Leaf). x.number) it.3)) (leaves_of t kept)
    (all_shown by_version (leaf_in t) (λ (one : VersionRow). int_eq one.kept kept) t.versions)

same_numbers : (one other : RecordRow) → one.lab ≡ other.lab → one.number ≡ other.number → same_record one other ≡ true
same_numbers one other lab number =
    and_from (int_eq one.lab other.lab) (one.number == other.number) (alike one.lab other.lab lab) (eq-eqb one.number other.number number)

-- the last version of the record that the laboratory is shown to have is the one of a row
last_number : (t : Tables) → AreWellKept t → (code : List ℕ) (lab : ℤ) (number : ℕ) (kept : RecordRow) → record_named t lab number ≡ Some kept
    → (shown : Record) → record_of (records_of t code lab) number ≡ Some shown → (last : Version) → last_of shown.versions ≡ Some last
    → IsNumbered t kept.id last.origin.number
last_number t well code lab number kept named shown found last before =
    let has = has_found (has_number number) (records_of t code lab) shown found in
    let it = all_has (IsShown (record_in t code) (λ (one : RecordRow). int_eq one.lab lab) t.records) (records_of t code lab) shown
    (all_shown by_record (record_in t code) (λ (one : RecordRow). int_eq one.lab lab) t.records) has.0 in
    let own = own_ids t well.ids in
    let there = record_there t own.records lab number kept named in
    let beside : it.0.lab ≡ kept.lab = same_int it.0.lab lab it.2 ∙ sym (record_is_of t own.records lab number kept named) in
    let here : kept.number ≡ number = eqb-true kept.number number (and_parts (int_eq kept.lab lab) (kept.number == number) there.1).1 in
    let same : it.0.number ≡ kept.number = sym (ap (λ (x : Record). x.number) it.3) ∙ eqb-true shown.number number has.1 ∙ sym here in
    let is : it.0 ≡ kept = same_key same_record t.records it.0 kept (apart_from_test same_record t.records (own_keys t well.keys).records) it.1 there.0
    (same_numbers it.0 kept beside same) (same_numbers kept it.0 (sym beside) (sym same)) in
    let versions : shown.versions ≡ chained code (cover_in t kept) None (leaves_of t kept.id) = ap (λ (x : Record). x.versions) it.3
    ∙ ap (λ (x : RecordRow). (record_in t code x).versions) is in
    all-slice_get (λ (version : Version). IsNumbered t kept.id version.origin.number) shown.versions (length shown.versions - 1) last before
    (subst (AllByRecursion (λ (version : Version). IsNumbered t kept.id version.origin.number)) (sym versions)
    (numbers_chained (IsNumbered t kept.id) code (cover_in t kept) None (leaves_of t kept.id) (numbers_of t kept.id)))

amended : (amendment : Option Amendment) (digest : List ℕ) → option_map (λ (one : Amendment). one.previous) amendment ≡ Some digest
    → is_some (option_map (λ (one : Amendment). one.reason) amendment) ≡ true
amended None digest h = absurd cc
amended (Some one) digest h = refl

versions_clash : (row one other : VersionRow) → is_beside Versions row one ≡ true → is_beside Versions row other ≡ true
    → (one.number == other.number) ≡ true → same_version one other ≡ true
versions_clash row one other own beside number =
    and_from (int_eq one.kept other.kept) (one.number == other.number)
    (alike one.kept other.kept (same_int one.kept row.kept own ∙ sym (same_int other.kept row.kept beside))) number

versions_alike : (rows : List VersionRow) (row one : VersionRow) → is_beside Versions row one ≡ true
    → length (filter (is_beside Versions one) rows) ≡ length (filter (is_beside Versions row) rows)
versions_alike rows row one own = ap (λ id. length (filter (λ (x : VersionRow). int_eq x.kept id) rows)) (same_int one.kept row.kept own)

-- ---- the version's own row

module _ (t : Tables) (well : AreWellKept t) (lab : ℤ) (number : ℕ) (kept : RecordRow) (named : record_named t lab number ≡ Some kept)
    (shown : Record) (version : Version) (last : ℕ) (numbered : IsNumbered t kept.id last) (next : version.origin.number ≡ last + 1) (digest : List ℕ)
    (previous : previous_of version ≡ Some digest)
    (format : IsOfForm version shown) (id : ℤ) (free : IsFree version_id t.versions id) (opener : ℤ)
    (opens : person_named t lab version.opener ≡ Some opener) where
  abbrev new_row : VersionRow
  new_row = version_row_of kept.id id opener version

  abbrev with_version : Tables
  with_version = put_version new_row t

  last_within : (1 ≤ last) × (last ≤ length (filter (is_beside Versions new_row) t.versions))
  last_within =
      let within = within_to numbered.0.number (length (filter (is_beside Versions numbered.0) t.versions))
      (all_has (λ (one : VersionRow). is_numbered (is_beside Versions) (number_of Versions) t.versions one ≡ true) t.versions numbered.0
      ((rows_kept t well).at Versions).1 numbered.1) in
      let count = versions_alike t.versions new_row numbered.0 (alike numbered.0.kept kept.id numbered.2) in
      let same = numbered.3 in
      let least = within.0 in
      let most = within.1 in
      (omega (arith, least, same), omega (arith, most, same, count))

  new_number : AreApart same_version (insert_by version_id t.versions new_row) → version.origin.number ≡ length (filter (is_beside Versions new_row) t.versions) + 1
  new_number apart =
      let least = last_within.0 in
      let most = last_within.1 in
      next_number version_id (is_beside Versions) same_version (number_of Versions) t.versions new_row free (alike kept.id kept.id refl) ((rows_kept t well).at Versions).1
      (versions_alike t.versions new_row) apart
      (versions_clash new_row) (omega (arith, next, least)) (omega (arith, next, most))

  new_reason : has_due_reason new_row ≡ true
  new_reason =
      let least = last_within.0 in
      or_right ((new_row.number == 1) && is_none new_row.reason) (nat_le 2 new_row.number && is_some new_row.reason)
      (and_from (nat_le 2 new_row.number) (is_some new_row.reason) (le-leb 2 version.origin.number (omega (arith, next, least)))
      (amended version.origin.amendment digest previous))

  new_format : has_format new_row ≡ true
  new_format = ap (λ f. (format_number f == 1) || (format_number f == 2)) format

  its_lab : lab_of_record t kept.id ≡ Some lab
  its_lab = record_lab t (own_ids t well.ids).records lab number kept named

  new_rows : version.origin.number ≡ length (filter (is_beside Versions new_row) t.versions) + 1 → AreRowsKept with_version
  new_rows counts =
      put_kept Versions t new_row free (
        of_same (lab_of_person t opener) (lab_of_record t kept.id) lab (named_lab t (own_ids t well.ids).persons lab version.opener opener opens) its_lab,
        new_reason,
        new_format,
      ) counts (rows_kept t well)

  version_is_of : lab_of_version with_version id ≡ Some lab
  version_is_of = ap (option_and_then (λ (x : VersionRow). lab_of_record t x.kept)) (new_found version_id new_row t.versions free) ∙ its_lab

  -- the record's row, set, is current
  current_follows : version.origin.number ≡ length (filter (is_beside Versions new_row) t.versions) + 1 → (one : RecordRow) → is_current t one ≡ true
      → is_current with_version (cond (int_eq one.id kept.id) (record one { current = version.origin.number }) one) ≡ true
  current_follows counts one held = go (int_eq one.id kept.id) refl
    where
      go : (b : Bool) → int_eq one.id kept.id ≡ b → is_current with_version (cond b (record one { current = version.origin.number }) one) ≡ true
      go true e =
          let least : 1 ≤ version.origin.number = omega (arith, counts) in
          let both = and_parts _ _ held in
          and_from (nat_le 1 version.origin.number) _ (le-leb 1 version.origin.number least)
          (counter_follows version_id (λ (x : VersionRow). x.kept) t.versions new_row free version.origin.number one.current counts one.id true e both.1)
      go false e =
          let both = and_parts _ _ held in
          and_from (nat_le 1 one.current) _ both.0 (counter_follows version_id
          (λ (x : VersionRow). x.kept) t.versions new_row free version.origin.number one.current counts one.id false e both.1)

  new_current : version.origin.number ≡ length (filter (is_beside Versions new_row) t.versions) + 1
      → AreCurrent (set_current kept.id version.origin.number with_version)
  new_current counts =
      all_map (λ (one : RecordRow). is_current with_version one ≡ true)
      (λ (one : RecordRow). cond (int_eq one.id kept.id) (record one { current = version.origin.number }) one) t.records
      (all_weaker (λ (one : RecordRow). is_current t one ≡ true)
      (λ (one : RecordRow). is_current with_version (cond (int_eq one.id kept.id) (record one { current = version.origin.number }) one) ≡ true)
      (current_follows counts) t.records (all_kept t well).currents)

  -- what no entry touches: the counters, and that the version is the current one, once its record says so
  abbrev Beside : Tables → Type 0
  Beside u = AreCounted u × AreCurrent (set_current kept.id version.origin.number u)

  new_state : version.origin.number ≡ length (filter (is_beside Versions new_row) t.versions) + 1 → HasVersion lab id Beside with_version
  new_state counts = record {
    persons = (own_ids t well.ids).persons;
    its = version_is_of;
    rows = new_rows counts;
    beside = ((all_kept t well).counters, new_current counts);
  }

  version_more : (new : Tables) → IsByRules new → (entered opened : Tables) → InTurn (AddsEntry lab id) version.rows with_version entered
      → opened ≡ entered → new ≡ set_current kept.id version.origin.number opened → AreWellKept new
  version_more new rules entered opened rows same made =
      let versions : new.versions ≡ insert_by version_id t.versions new_row = ap (λ (x : Tables). x.versions) made ∙ ap (λ (x : Tables). x.versions) same
      ∙ turns_leave (AddsEntry lab id) (λ (x : Tables). x.versions) (entry_leaves lab id) version.rows with_version entered rows in
      let apart = subst (AreApart same_version) versions (apart_from_test same_version new.versions (own_keys new rules.keys).versions) in
      let state = entries_more lab id Beside (λ row u held. held) version.rows with_version entered rows (new_state (new_number apart)) in
      let is : new ≡ set_current kept.id version.origin.number entered = made ∙ ap (set_current kept.id version.origin.number) same in
      well_kept new rules (subst AreAllKept (sym is) (record {
        rows = current_set entered kept.id version.origin.number state.rows;
        counters = current_counted entered kept.id version.origin.number state.beside.0;
        currents = state.beside.1;
      }))

pub version_opened_keeps : {old new : Tables} {code : List ℕ} {number : ℕ} {version : Version} → AreWellKept old → IsByRules new
    → ChangesFit (meaning old code) (VersionOpened number version ∷ [])
    → Applies code (VersionOpened number version) old new → AreWellKept new
version_opened_keeps {old} {new} {code} {number} {version} well rules fit it =
    let lab = it.lab in
    let added = it.made.added in
    let fits = matched (record_of (records_of old lab.code lab.id) number) (λ (shown : Record). IsNewVersion (lab_in old lab) version shown)
    (fits_here old code lab (VersionOpened number version) it.found fit) in
    let numbered = last_number old well lab.code lab.id number it.made.kept it.made.found fits.0 fits.1 fits.2.last fits.2.before in
    let same : it.made.opened ≡ added.entered =
    nothing_signed lab.id added.id version.signatures fits.2.no_signatures added.entered it.made.opened added.signatures in
    version_more old well lab.id number it.made.kept it.made.found fits.0 version fits.2.last.origin.number numbered fits.2.next
    (digest_of lab.code fits.0 fits.2.last) fits.2.previous fits.2.format
    added.id added.free added.opener added.named new rules added.entered it.made.opened added.rows same it.made.current
