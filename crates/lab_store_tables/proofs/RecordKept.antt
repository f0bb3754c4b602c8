-- A record more, with its first version, which has no rows yet: the tables stay well kept.
use Rattle.std.proofs.Common.{◌≡◌, ℕ, ◌+◌, ℤ, true, false, ◌&&◌, ◌||◌, ◌==◌, List, [], ◌∷◌, filter, length, Some, None, option_map, is_some, is_none, refl, sym, ap, subst, ◌∙◌, int_eq}
use Rattle.std.specs.Prelude.{nat_le}
use Rattle.std.proofs.lemmas.Bool.{and_from, eq-eqb}
use Rattle.sqlite_keyed.specs.Keyed.{insert_by}
use Rattle.sqlite_keyed.proofs.ListLemmas.{all_both}
use Rattle.sqlite_keyed.proofs.KeyedLemmas.{all-insert_by}
use Rattle.lab_seal_versions.specs.declared.origins.OriginParts.{OriginParts}
use Rattle.lab_records_kept.specs.declared.records.Record.{Record}
use Rattle.lab_records_kept.specs.declared.records.Version.{Version}
use Rattle.lab_records_kept.specs.declared.changes.Change.TheVariants.{RecordAdded}
use Rattle.lab_records_kept.specs.Changes.{ChangesFit}
use Rattle.lab_store_tables.specs.Rows.{LabRow, RecordRow, VersionRow, Tables, record_id, version_id}
use Rattle.lab_store_tables.specs.Columns.{format_number}
use Rattle.lab_store_tables.specs.Meaning.{meaning, record_in, by_record}
use Rattle.lab_store_tables.specs.WellKept.{lab_of_person, lab_of_form, lab_of_record, is_current, has_due_reason, has_format, AreWellKept}
use Rattle.lab_store_tables.specs.Family.{Records, Versions}
use Rattle.lab_store_tables.specs.Changes.{IsFree, InTurn, person_named, form_named, record_row_of, put_record, AddsEntry, AddsSignature, version_row_of, put_version, AddsVersion, in_lab, Applies}
use Rattle.lab_store_tables.proofs.LabLaws.{alike}
use Rattle.lab_store_tables.specs.ByRules.{IsByRules}
use Rattle.lab_store_tables.proofs.Kept.{is_beside, AreRowsKept, AreCounted, AreCurrent, AreAllKept, all_kept, well_kept}
use Rattle.lab_store_tables.proofs.PutRows.{count_mine, count_other, new_found}
use Rattle.lab_store_tables.proofs.FreeIds.{none_has, none_leads}
use Rattle.lab_store_tables.proofs.Ids.{own_ids, versions_lead}
use Rattle.lab_store_tables.proofs.Named.{of_same, named_lab, form_lab, form_code}
use Rattle.lab_store_tables.proofs.Puts.{put_kept}
use Rattle.lab_store_tables.proofs.Sets.{lab_set}
use Rattle.lab_store_tables.proofs.Counters.{records_counted}
use Rattle.lab_store_tables.proofs.Shown.{as_many, fits_here}
use Rattle.lab_store_tables.proofs.OneRow.{turned}

-- ---- one step, of what has one item

abbrev pub IsOne : {A : Type 0} → (A → Tables → Tables → Type 0) → A → Tables → Tables → Type 0
IsOne step one old new = (middle : Tables) × step one old middle × (new ≡ middle)

one_turn : {A : Type 0} (step : A → Tables → Tables → Type 0) (items : List A) (one : A) → items ≡ one ∷ [] → (old new : Tables) → InTurn step items old new
    → IsOne step one old new
one_turn step items one is old new turns = subst (λ list. InTurn step list old new) is turns

no_turn : {A : Type 0} (step : A → Tables → Tables → Type 0) (items : List A) → items ≡ [] → (old new : Tables) → InTurn step items old new → new ≡ old
no_turn step items is old new turns = subst (λ list. InTurn step list old new) is turns

-- ---- the record's row

module _ (t : Tables) (well : AreWellKept t) (lab : ℤ) (kept : Record)
    (next : kept.number ≡ length (filter (λ (one : RecordRow). int_eq one.lab lab) t.records) + 1)
    (id : ℤ) (free : IsFree record_id t.records id) (form : ℤ) (named : form_named t lab kept.form.code kept.form.version ≡ Some form) where
  abbrev new_record : RecordRow
  new_record = record_row_of lab id form kept

  abbrev with_record : Tables
  with_record = in_lab lab (λ (one : LabRow). record one { records = kept.number }) (put_record new_record t)

  record_rows : AreRowsKept with_record
  record_rows =
      lab_set (put_record new_record t) lab (λ (one : LabRow). record one { records = kept.number })
      (put_kept Records t new_record free (
        of_same (lab_of_form t form) (Some lab) lab (form_lab t (own_ids t well.ids).forms lab kept.form.code kept.form.version form named) refl,
        form_code t (own_ids t well.ids).forms lab kept.form.code kept.form.version form named,
      ) next (all_kept t well).rows)

  record_counts : AreCounted with_record
  record_counts = records_counted t new_record free next (all_kept t well).counters

  record_is_of : lab_of_record with_record id ≡ Some lab
  record_is_of = ap (option_map (λ (x : RecordRow). x.lab)) (new_found record_id new_record t.records free)

  -- no version is of the new record yet
  none_yet : filter (λ (one : VersionRow). int_eq one.kept id) t.versions ≡ []
  none_yet =
      none_leads record_id t.records (λ (one : VersionRow). one.kept) t.versions id free (versions_lead t well.arrows)

  -- ---- its first version's row

  module _ (version : Version) (versions : kept.versions ≡ version ∷ []) (number : version.origin.number ≡ 1)
      (reason : option_map (λ amendment. amendment.reason) version.origin.amendment ≡ None)
      (format : format_number version.format ≡ 2) (at : ℤ) (opener : ℤ) (vacant : IsFree version_id t.versions at)
      (opens : person_named t lab version.opener ≡ Some opener) where
    abbrev new_version : VersionRow
    new_version = version_row_of id at opener version

    abbrev with_version : Tables
    with_version = put_version new_version with_record

    first_number : version.origin.number ≡ length (filter (is_beside Versions new_version) t.versions) + 1
    first_number = number ∙ ap (λ list. length list + 1) (sym none_yet)

    first_reason : has_due_reason new_version ≡ true
    first_reason = (λ i. ((number i == 1) && is_none (reason i)) || (nat_le 2 (number i) && is_some (reason i)))

    first_format : has_format new_version ≡ true
    first_format = ap (λ f. (f == 1) || (f == 2)) format

    version_rows : AreRowsKept with_version
    version_rows =
        put_kept Versions with_record new_version vacant (
          of_same (lab_of_person t opener) (lab_of_record with_record id) lab (named_lab t (own_ids t well.ids).persons lab version.opener opener opens) record_is_of,
          first_reason,
          first_format,
        ) first_number record_rows

    -- the record's own, which is its first, and those of others as before
    own_current : is_current with_version new_record ≡ true
    own_current =
        let one : length kept.versions ≡ 1 = ap (λ (list : List Version). length list) versions in
        let grown = count_mine version_id new_version (λ (x : VersionRow). int_eq x.kept id) t.versions vacant (alike id id refl) in
        let count : length (filter (λ (x : VersionRow). int_eq x.kept id) (insert_by version_id t.versions new_version)) ≡ 1 = grown
        ∙ ap (λ list. length list + 1) none_yet in
        and_from (nat_le 1 (length kept.versions)) (length kept.versions == length
        (filter (λ (x : VersionRow). int_eq x.kept id) (insert_by version_id t.versions new_version)))
        (ap (λ n. nat_le 1 n) one) (eq-eqb (length kept.versions)
        (length (filter (λ (x : VersionRow). int_eq x.kept id) (insert_by version_id t.versions new_version))) (one ∙ sym count))

    other_current : (one : RecordRow) → int_eq one.id id ≡ false → is_current t one ≡ true → is_current with_version one ≡ true
    other_current one other held =
        ap (λ n. nat_le 1 one.current && (one.current == n))
        (count_other version_id new_version (λ (x : VersionRow). int_eq x.kept one.id) t.versions vacant (turned one.id id other)) ∙ held

    all_current : AreCurrent with_version
    all_current =
        all-insert_by record_id (λ (one : RecordRow). is_current with_version one ≡ true) t.records new_record own_current
        (all_both (λ (one : RecordRow). int_eq one.id id ≡ false) (λ (one : RecordRow). is_current t one ≡ true)
        (λ (one : RecordRow). is_current with_version one ≡ true) other_current t.records
        (none_has record_id t.records id free) (all_kept t well).currents)

    record_more : AreAllKept with_version
    record_more = record { rows = version_rows; counters = record_counts; currents = all_current }

pub record_added_keeps : {old new : Tables} {code : List ℕ} {kept : Record} → AreWellKept old → IsByRules new
    → ChangesFit (meaning old code) (RecordAdded kept ∷ [])
    → Applies code (RecordAdded kept) old new → AreWellKept new
record_added_keeps {old} {new} {code} {kept} well rules fit it =
    let lab = it.lab in
    let adds = it.made in
    let fits = fits_here old code lab (RecordAdded kept) it.found fit in
    let next = fits.number ∙ ap (λ n. n + 1) (as_many by_record (record_in old lab.code) (filter (λ (one : RecordRow). int_eq one.lab lab.id) old.records)) in
    let filed = with_record old well lab.id kept next adds.id adds.free adds.form adds.named in
    let versions = one_turn (AddsVersion lab.id adds.id) kept.versions fits.first fits.versions filed new adds.versions in
    let added = versions.1 in
    let entered = no_turn (AddsEntry lab.id added.id) fits.first.rows fits.no_rows
    (put_version (version_row_of adds.id added.id added.opener fits.first) filed) added.entered added.rows in
    let signed = no_turn (AddsSignature lab.id added.id) fits.first.signatures fits.no_signatures added.entered versions.0 added.signatures in
    let is : new ≡ put_version (version_row_of adds.id added.id added.opener fits.first) filed = versions.2 ∙ signed ∙ entered in
    well_kept new rules (subst AreAllKept (sym is)
    (record_more old well lab.id kept next adds.id adds.free adds.form adds.named fits.first fits.versions
    (ap (λ (origin : OriginParts). origin.number) fits.origin)
    (ap (λ (origin : OriginParts). option_map (λ amendment. amendment.reason) origin.amendment) fits.origin)
    (ap format_number fits.format) added.id added.opener added.free added.named))
