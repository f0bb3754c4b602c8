-- A record more, with its first version: its laboratory has it behind the others, and no other laboratory sees it.
use Rattle.std.proofs.Common.{◌≡◌, ℕ, ◌+◌, ℤ, false, cond, List, [], ◌∷◌, ◌++◌, map, filter, find, length, Some, None, option_map, refl, sym, ap, subst, ◌∙◌, int_eq}
use Rattle.std.proofs.lemmas.List.{length-map}
use Rattle.sqlite_rules.specs.Lists.{Has}
use Rattle.sqlite_keyed.specs.Lists.{sort_by}
use Rattle.lab_seal_versions.specs.declared.origins.Amendment.{Amendment}
use Rattle.lab_seal_versions.specs.declared.origins.OriginParts.{OriginParts}
use Rattle.lab_seal_versions.specs.declared.versions.Format.TheVariants.{Two}
use Rattle.lab_records_kept.specs.declared.records.FormVersion.{FormVersion}
use Rattle.lab_records_kept.specs.declared.records.Record.{Record}
use Rattle.lab_records_kept.specs.declared.changes.Change.TheVariants.{RecordAdded}
use Rattle.lab_records_kept.specs.Changes.{change, IsNewRecord, ChangesFit}
use Rattle.lab_records_keeper.specs.Worlds.{Changes}
use Rattle.lab_store_tables.specs.Rows.{LabRow, RecordRow, VersionRow, Tables, record_id}
use Rattle.lab_store_tables.specs.Meaning.{lab_in, has_code, meaning, by_version, leaves_of, leaf_in, version_after, chained, cover_in, record_in, by_record, records_of, form_at}
use Rattle.lab_store_tables.specs.WellKept.{AreWellKept}
use Rattle.lab_store_tables.specs.Changes.{IsFree, InTurn, AddsVersion, form_named, record_row_of, put_record, in_lab, Applies}
use Rattle.lab_store_tables.specs.Held.{AreRising}
use Rattle.lab_store_tables.specs.Family.{Records, Versions, Entries}
use Rattle.lab_store_tables.proofs.NumberLaws.{length_sorted, numbered_last}
use Rattle.lab_store_tables.proofs.LevelLaws.{had_by}
use Rattle.lab_store_tables.proofs.LabLaws.{alike}
use Rattle.lab_store_tables.proofs.KeptParts.{KeptParts, parts_kept}
use Rattle.lab_store_tables.proofs.OrderLaws.{not_there}
use Rattle.lab_store_tables.proofs.RowSet.{had_alike}
use Rattle.lab_store_tables.proofs.LabSet.{fits_here, lab_changed, counter_unseen}
use Rattle.lab_store_tables.proofs.NextLaws.{no_rows}
use Rattle.lab_store_tables.proofs.VersionMore.{MayOpen, leaf_of, version_back, after, opened_is, leaves_more}
use Rattle.lab_store_tables.proofs.FormFound.{form_is}

module _ (t : Tables) (rising : AreRising t) (well : AreWellKept t) (code : List ℕ) (row : LabRow) (found : find (has_code code) t.labs ≡ Some row)
    (kept : Record) (fits : IsNewRecord (lab_in t row) kept) (id : ℤ) (free : IsFree record_id t.records id) (form : ℤ)
    (named : form_named t row.id kept.form.code kept.form.version ≡ Some form) where
  parts : KeptParts t
  parts = parts_kept t well

  abbrev new : RecordRow
  new = record_row_of row.id id form kept

  abbrev count : LabRow → LabRow
  count lab = record lab { records = kept.number }

  -- the tables with the record's own row
  abbrev start : Tables
  start = in_lab row.id count (put_record new t)

  -- they may take a version as those before might
  may : MayOpen start
  may = record {
    persons = parts.ids.persons;
    versions = (rising.at Versions);
    entries = (rising.at Entries);
    numbers = parts.numbers.versions;
    entry_parents = parts.arrows.entries;
    signature_parents = parts.arrows.signatures;
  }

  -- no version led to it before
  no_versions : filter (λ (one : VersionRow). int_eq one.kept id) t.versions ≡ []
  no_versions = no_rows (λ (one : VersionRow). one.kept) record_id t.records id free t.versions parts.arrows.versions

  no_leaves : leaves_of t id ≡ []
  no_leaves = ap (λ list. map (leaf_in t) (sort_by by_version list)) no_versions

  first_number : fits.first.origin.number ≡ length (filter (λ (one : VersionRow). int_eq one.kept id) t.versions) + 1
  first_number = ap (λ (origin : OriginParts). origin.number) fits.origin ∙ sym (ap (λ (list : List VersionRow). length list + 1) no_versions)

  next : kept.number ≡ length (filter (λ (one : RecordRow). int_eq one.lab row.id) t.records) + 1
  next =
      fits.number
      ∙ ap (λ n. n + 1)
      (length-map (sort_by by_record (filter (λ (one : RecordRow). int_eq one.lab row.id) t.records)) (record_in t row.code)
      ∙ length_sorted by_record (filter (λ (one : RecordRow). int_eq one.lab row.id) t.records))

  its_form : form_at t form ≡ kept.form
  its_form = form_is t parts row.id kept.form fits.form form named

  module _ (opened : Tables) (added : AddsVersion row.id id fits.first start opened) where
    abbrev with_version : Tables
    with_version = after start may row.id id fits.first opened added first_number fits.no_signatures

    more : (of : ℤ) → leaves_of with_version of ≡ cond (int_eq of id) (leaves_of t of ++ leaf_of fits.first ∷ []) (leaves_of t of)
    more = leaves_more start may row.id id fits.first opened added first_number fits.no_signatures

    -- the same but for the laboratory's counter
    abbrev uncounted : Tables
    uncounted = record with_version { labs = t.labs }

    -- ---- the record as it stands

    abbrev cover : Record
    cover = cover_in uncounted new

    first_back : version_after cover None (leaf_of fits.first) ≡ fits.first
    first_back =
        version_back cover None fits.first (fits.format ∙ ap (λ (one : FormVersion). Two one.form.approval) (sym its_form))
        (ap (λ (origin : OriginParts). option_map (λ (amendment : Amendment). amendment.previous) origin.amendment) fits.origin)

    versions_back : chained row.code cover None (leaves_of uncounted id) ≡ kept.versions
    versions_back =
        ap (chained row.code cover None)
        (more id ∙ ap (λ b. cond b (leaves_of t id ++ leaf_of fits.first ∷ []) (leaves_of t id)) (alike id id refl)
        ∙ ap (λ had. had ++ leaf_of fits.first ∷ []) no_leaves)
        ∙ ap (λ first. first ∷ []) first_back ∙ sym fits.versions

    record_back : record_in uncounted row.code new ≡ kept
    record_back = λ i. record kept { form = its_form i; versions = versions_back i }

    -- ---- the records of each laboratory

    old_record : (of : List ℕ) (one : RecordRow) → Has t.records one → record_in uncounted of one ≡ record_in t of one
    old_record of one has = λ i. record (cover_in t one) {
      versions = chained of (cover_in t one) None
          ((more one.id ∙ ap (λ b. cond b (leaves_of t one.id ++ leaf_of fits.first ∷ []) (leaves_of t one.id))
          (not_there record_id t.records id one free has)) i);
    }

    old_records : (of : List ℕ) (lab : ℤ) → had_by (λ (one : RecordRow). one.lab) by_record (record_in uncounted of) t.records lab ≡ records_of t of lab
    old_records of lab =
        had_alike (λ (one : RecordRow). one.lab) by_record (record_in uncounted of) (record_in t of) t.records lab (λ one has beside. old_record of one has)

    records_more : (of : List ℕ) (lab : ℤ) → records_of uncounted of lab
        ≡ cond (int_eq lab row.id) (records_of t of lab ++ record_in uncounted of new ∷ []) (records_of t of lab)
    records_more of lab =
        numbered_last record_id (λ (one : RecordRow). one.lab) (λ (one : RecordRow). one.number) (record_in uncounted of) t.records
        (rising.at Records) parts.numbers.records new free next lab
        ∙ ap (λ had. cond (int_eq lab row.id) (had ++ record_in uncounted of new ∷ []) had) (old_records of lab)

    its_records : records_of uncounted row.code row.id ≡ records_of t row.code row.id ++ kept ∷ []
    its_records =
        records_more row.code row.id
        ∙ ap (λ b. cond b (records_of t row.code row.id ++ record_in uncounted row.code new ∷ []) (records_of t row.code row.id)) (alike row.id row.id refl)
        ∙ ap (λ last. records_of t row.code row.id ++ last ∷ []) record_back

    its_lab : lab_in uncounted row ≡ change (lab_in t row) (RecordAdded kept)
    its_lab = λ i. record (lab_in t row) { records = its_records i }

    other_labs : (lab : LabRow) → int_eq lab.id row.id ≡ false → lab_in uncounted lab ≡ lab_in t lab
    other_labs lab other = λ i. record (lab_in t lab) {
      records = (records_more lab.code lab.id
          ∙ ap (λ b. cond b (records_of t lab.code lab.id ++ record_in uncounted lab.code new ∷ []) (records_of t lab.code lab.id)) other) i;
    }

    uncounted_changes : Changes code (RecordAdded kept ∷ []) (meaning t) (meaning uncounted)
    uncounted_changes = lab_changed t uncounted refl parts.ids.labs code row found (RecordAdded kept) its_lab other_labs

    unseen : (other : List ℕ) → meaning with_version other ≡ meaning uncounted other
    unseen = counter_unseen uncounted row.id count (λ lab. refl) (λ lab. refl)

    counted : Changes code (RecordAdded kept ∷ []) (meaning t) (meaning with_version)
    counted = record {
      here = unseen code ∙ uncounted_changes.here;
      others = λ other differs. unseen other ∙ uncounted_changes.others other differs;
    }

    pub record_changes : Changes code (RecordAdded kept ∷ []) (meaning t) (meaning opened)
    record_changes =
        subst (λ tables. Changes code (RecordAdded kept ∷ []) (meaning t) (meaning tables))
        (sym (opened_is start may row.id id fits.first opened added first_number fits.no_signatures)) counted

-- a record stands behind those of its laboratory, and nowhere else
pub record_is_added : {old new : Tables} {code : List ℕ} {kept : Record} → AreRising old → AreWellKept old
    → ChangesFit (meaning old code) (RecordAdded kept ∷ []) → Applies code (RecordAdded kept) old new
    → Changes code (RecordAdded kept ∷ []) (meaning old) (meaning new)
record_is_added {old} {new} {code} {kept} rising well fit it =
    let fits : IsNewRecord (lab_in old it.lab) kept = fits_here old code it.lab (RecordAdded kept) it.found fit in
    let start = in_lab it.lab.id (λ (one : LabRow). record one { records = kept.number })
    (put_record (record_row_of it.lab.id it.made.id it.made.form kept) old) in
    let turn : InTurn (AddsVersion it.lab.id it.made.id) (fits.first ∷ []) start new =
    subst (λ list. InTurn (AddsVersion it.lab.id it.made.id) list start new) fits.versions it.made.versions in
    subst (λ tables. Changes code (RecordAdded kept ∷ []) (meaning old) (meaning tables)) (sym turn.2)
    (record_changes old rising well code it.lab it.found kept fits it.made.id it.made.free it.made.form it.made.named turn.0 turn.1)
