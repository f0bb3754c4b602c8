-- A record more, whole: its laboratory has it behind the others, with all its versions, and no other laboratory sees it.
use Rattle.std.proofs.Common.{◌≡◌, ◌≤◌, ℕ, ◌+◌, ℤ, Bool, false, cond, List, [], ◌∷◌, ◌++◌, map, filter, find, length, Option, Some, None, option_map, unwrap_or, refl, sym, ap, subst, ◌∙◌, int_eq}
use Rattle.std.specs.List.{AllByRecursion}
use Rattle.std.specs.Prelude.{All}
use Rattle.std.proofs.lemmas.List.{length-map}
use Rattle.std.proofs.lemmas.List.Elements.{All-head, All-tail}
use Rattle.sqlite_rules.specs.Lists.{Has}
use Rattle.sqlite_keyed.specs.Keyed.{has_key}
use Rattle.sqlite_keyed.specs.Lists.{sort_by}
use Rattle.sqlite_keyed.proofs.ListLemmas.{all_from_test}
use Rattle.lab_seal_versions.specs.declared.origins.Amendment.{Amendment}
use Rattle.lab_seal_versions.specs.declared.versions.Format.{Format}
use Rattle.lab_seal_versions.specs.declared.versions.Format.TheVariants.{One, Two}
use Rattle.lab_records_kept.specs.declared.records.FormVersion.{FormVersion}
use Rattle.lab_records_kept.specs.declared.records.Record.{Record}
use Rattle.lab_records_kept.specs.declared.records.Version.{Version}
use Rattle.lab_records_kept.specs.declared.changes.Change.TheVariants.{RecordAdded}
use Rattle.lab_records_kept.specs.Bound.{IsChain}
use Rattle.lab_records_kept.specs.Changes.{change}
use Rattle.lab_records_kept.specs.Digests.{digest_of, previous_of}
use Rattle.lab_records_kept.specs.Dual.{SaysOfApproval}
use Rattle.lab_records_keeper.specs.Worlds.{Changes}
use Rattle.lab_store_tables.specs.Rows.{LabRow, RecordRow, VersionRow, EntryRow, SignatureRow, Tables, record_id, version_id}
use Rattle.lab_store_tables.specs.Columns.{format_in, format_number}
use Rattle.lab_store_tables.specs.Meaning.{lab_in, has_code, meaning, leaves_of, leaf_in, by_version, version_after, chained, cover_in, record_in, by_record, records_of, form_at}
use Rattle.lab_store_tables.specs.WellKept.{AreWellKept}
use Rattle.lab_store_tables.specs.Changes.{IsFree, InTurn, AddsVersion, AddsRecord, form_named, record_row_of, put_record, in_lab}
use Rattle.lab_store_tables.specs.Held.{AreRising}
use Rattle.lab_store_tables.specs.Family.{Records, Versions, Entries, Signatures}
use Rattle.lab_store_tables.proofs.NumberLaws.{length_sorted, numbered_last}
use Rattle.lab_store_tables.proofs.LevelLaws.{had_by}
use Rattle.lab_store_tables.proofs.LabLaws.{alike}
use Rattle.lab_store_tables.proofs.KeptParts.{KeptParts, parts_kept}
use Rattle.lab_store_tables.proofs.OrderLaws.{not_there}
use Rattle.lab_store_tables.proofs.RowSet.{had_alike}
use Rattle.lab_store_tables.proofs.LabSet.{lab_changed, counter_unseen}
use Rattle.lab_store_tables.proofs.NextLaws.{AreWithin, no_rows}
use Rattle.lab_store_tables.proofs.VersionMore.{leaf_of}
use Rattle.lab_move_write.proofs.Wholes.{SaysAsForm, IsWholeRecord}
use Rattle.lab_move_write.proofs.VersionWhole.{kept_of, number_of, AreSteady}
use Rattle.lab_move_write.proofs.VersionsInTurn.{AreOpened, opened_in_turn}
use Rattle.lab_move_write.proofs.ExactForm.{form_is}

-- ---- versions that their leaves come to, each amending the one before it

format_back : (format : Format) (approval : Bool) → SaysOfApproval format approval → format_in (format_number format) approval ≡ format
format_back One approval says = refl
format_back (Two said) approval says = ap Two (sym says)

abbrev amending : List ℕ → List ℕ → Amendment
amending previous reason = record { previous = previous; reason = reason }

amended : (amendment : Option Amendment) (before : Option (List ℕ)) → option_map (λ (it : Amendment). it.previous) amendment ≡ before
    → option_map (λ (previous : List ℕ). amending previous (unwrap_or (option_map (λ (it : Amendment). it.reason) amendment) [])) before ≡ amendment
amended None None e = refl
amended None (Some digest) e = absurd cc
amended (Some it) None e = absurd cc
amended (Some it) (Some digest) e = λ i. Some (record it { previous = ap (λ (o : Option (List ℕ)). unwrap_or o digest) (sym e) i })

abbrev bare : Record → Record
bare kept = record kept { versions = [] }

version_back : (kept : Record) (before : Option (List ℕ)) (version : Version) → SaysAsForm kept version → previous_of version ≡ before
    → version_after (bare kept) before (leaf_of version) ≡ version
version_back kept before version says previous = λ i. record version {
  format = format_back version.format kept.form.form.approval says i;
  origin = record version.origin { amendment = amended version.origin.amendment before previous i };
}

chain_back : (lab : List ℕ) (kept : Record) (before : Option (List ℕ)) (versions : List Version) → All (SaysAsForm kept) versions
    → IsChain lab kept before versions → chained lab (bare kept) before (map leaf_of versions) ≡ versions
chain_back lab kept before [] says chain = refl
chain_back lab kept before (one ∷ others) says chain =
    let back = version_back kept before one (All-head (SaysAsForm kept) one others says) chain.0 in
    ap (λ v. v ∷ chained lab (bare kept) (Some (digest_of lab (bare kept) v)) (map leaf_of others)) back
    ∙ ap (λ list. one ∷ list) (chain_back lab kept (Some (digest_of lab kept one)) others (All-tail (SaysAsForm kept) one others says) chain.1)

module _ (t : Tables) (rising : AreRising t) (well : AreWellKept t) (code : List ℕ) (row : LabRow) (found : find (has_code code) t.labs ≡ Some row)
    (kept : Record) (whole : IsWholeRecord (lab_in t row) kept) (id : ℤ) (free : IsFree record_id t.records id) (form : ℤ)
    (named : form_named t row.id kept.form.code kept.form.version ≡ Some form) where
  parts : KeptParts t
  parts = parts_kept t well

  abbrev new : RecordRow
  new = record_row_of row.id id form kept

  abbrev count : LabRow → LabRow
  count lab = record lab { records = kept.number }

  -- the tables with the record's own row
  abbrev start : Tables
  start = in_lab row.id count (put_record new t)

  steady : AreSteady start
  steady = record {
    persons = parts.ids.persons;
    versions = (rising.at Versions);
    entries = (rising.at Entries);
    signatures = (rising.at Signatures);
    entries_led = all_from_test (λ (one : EntryRow). has_key version_id t.versions one.version) t.entries parts.arrows.entries;
    signatures_led = all_from_test (λ (one : SignatureRow). has_key version_id t.versions one.version) t.signatures parts.arrows.signatures;
  }

  -- no version led to it before
  no_versions : filter (λ (one : VersionRow). int_eq one.kept id) t.versions ≡ []
  no_versions = no_rows kept_of record_id t.records id free t.versions parts.arrows.versions

  no_leaves : leaves_of t id ≡ []
  no_leaves = ap (λ list. map (leaf_in t) (sort_by by_version list)) no_versions

  within : AreWithin version_id kept_of number_of id t.versions
  within = subst (λ list. AllByRecursion (λ (one : VersionRow). one.number ≤ length list) list) (sym no_versions) tt

  next : kept.number ≡ length (filter (λ (one : RecordRow). int_eq one.lab row.id) t.records) + 1
  next =
      whole.number
      ∙ ap (λ n. n + 1)
      (length-map (sort_by by_record (filter (λ (one : RecordRow). int_eq one.lab row.id) t.records)) (record_in t row.code)
      ∙ length_sorted by_record (filter (λ (one : RecordRow). int_eq one.lab row.id) t.records))

  its_form : form_at t form ≡ kept.form
  its_form = form_is t parts row.id kept.form whole.form form named

  -- the tables with its versions, their rows and their signatures
  module _ (versions : List VersionRow) (entries : List EntryRow) (signatures : List SignatureRow)
      (has : (of : ℤ) → leaves_of (record start { versions = versions; entries = entries; signatures = signatures }) of
      ≡ cond (int_eq of id) (leaves_of t of ++ map leaf_of kept.versions) (leaves_of t of)) where
    abbrev after : Tables
    after = record start { versions = versions; entries = entries; signatures = signatures }

    -- the same but for the laboratory's counter
    abbrev uncounted : Tables
    uncounted = record after { labs = t.labs }

    -- ---- the record as it stands

    abbrev cover : Record
    cover = cover_in uncounted new

    leaves_here : leaves_of uncounted id ≡ map leaf_of kept.versions
    leaves_here =
        has id ∙ ap (λ b. cond b (leaves_of t id ++ map leaf_of kept.versions) (leaves_of t id)) (alike id id refl)
        ∙ ap (λ had. had ++ map leaf_of kept.versions) no_leaves

    versions_back : chained row.code cover None (leaves_of uncounted id) ≡ kept.versions
    versions_back =
        ap (chained row.code cover None) leaves_here
        ∙ ap (λ (its : FormVersion). chained row.code (record kept { form = its; versions = [] }) None (map leaf_of kept.versions)) its_form
        ∙ chain_back row.code kept None kept.versions whole.formats whole.chain

    record_back : record_in uncounted row.code new ≡ kept
    record_back = λ i. record kept { form = its_form i; versions = versions_back i }

    -- ---- the records of each laboratory

    old_record : (of : List ℕ) (one : RecordRow) → Has t.records one → record_in uncounted of one ≡ record_in t of one
    old_record of one there = λ i. record (cover_in t one) {
      versions = chained of (cover_in t one) None
          ((has one.id ∙ ap (λ b. cond b (leaves_of t one.id ++ map leaf_of kept.versions) (leaves_of t one.id))
          (not_there record_id t.records id one free there)) i);
    }

    old_records : (of : List ℕ) (lab : ℤ) → had_by (λ (one : RecordRow). one.lab) by_record (record_in uncounted of) t.records lab ≡ records_of t of lab
    old_records of lab =
        had_alike (λ (one : RecordRow). one.lab) by_record (record_in uncounted of) (record_in t of) t.records lab (λ one there beside. old_record of one there)

    records_more : (of : List ℕ) (lab : ℤ) → records_of uncounted of lab
        ≡ cond (int_eq lab row.id) (records_of t of lab ++ record_in uncounted of new ∷ []) (records_of t of lab)
    records_more of lab =
        numbered_last record_id (λ (one : RecordRow). one.lab) (λ (one : RecordRow). one.number) (record_in uncounted of) t.records
        (rising.at Records) parts.numbers.records new free next lab
        ∙ ap (λ had. cond (int_eq lab row.id) (had ++ record_in uncounted of new ∷ []) had) (old_records of lab)

    its_records : records_of uncounted row.code row.id ≡ records_of t row.code row.id ++ kept ∷ []
    its_records =
        records_more row.code row.id
        ∙ ap (λ b. cond b (records_of t row.code row.id ++ record_in uncounted row.code new ∷ []) (records_of t row.code row.id)) (alike row.id row.id refl)
        ∙ ap (λ last. records_of t row.code row.id ++ last ∷ []) record_back

    its_lab : lab_in uncounted row ≡ change (lab_in t row) (RecordAdded kept)
    its_lab = λ i. record (lab_in t row) { records = its_records i }

    other_labs : (lab : LabRow) → int_eq lab.id row.id ≡ false → lab_in uncounted lab ≡ lab_in t lab
    other_labs lab other = λ i. record (lab_in t lab) {
      records = (records_more lab.code lab.id
          ∙ ap (λ b. cond b (records_of t lab.code lab.id ++ record_in uncounted lab.code new ∷ []) (records_of t lab.code lab.id)) other) i;
    }

    uncounted_changes : Changes code (RecordAdded kept ∷ []) (meaning t) (meaning uncounted)
    uncounted_changes = lab_changed t uncounted refl parts.ids.labs code row found (RecordAdded kept) its_lab other_labs

    unseen : (other : List ℕ) → meaning after other ≡ meaning uncounted other
    unseen = counter_unseen uncounted row.id count (λ lab. refl) (λ lab. refl)

    after_changes : Changes code (RecordAdded kept ∷ []) (meaning t) (meaning after)
    after_changes = record {
      here = unseen code ∙ uncounted_changes.here;
      others = λ other differs. unseen other ∙ uncounted_changes.others other differs;
    }

  pub record_changes : (new_tables : Tables) → InTurn (AddsVersion row.id id) kept.versions start new_tables
      → Changes code (RecordAdded kept ∷ []) (meaning t) (meaning new_tables)
  record_changes u turns =
      let opened : AreOpened id kept.versions start u =
      opened_in_turn row.id id kept.versions 0 start u steady within (ap (λ (list : List VersionRow). length list) no_versions) whole.numbered turns in
      subst (λ tables. Changes code (RecordAdded kept ∷ []) (meaning t) (meaning tables)) (sym opened.rest)
      (after_changes u.versions u.entries u.signatures
      (λ of. sym (ap (λ (tables : Tables). leaves_of tables of) opened.rest) ∙ opened.has of))

pub record_is_placed : {old new : Tables} {code : List ℕ} {row : LabRow} {kept : Record} → AreRising old → AreWellKept old
    → find (has_code code) old.labs ≡ Some row → IsWholeRecord (lab_in old row) kept → AddsRecord row.id kept old new
    → Changes code (RecordAdded kept ∷ []) (meaning old) (meaning new)
record_is_placed {old} {new} {code} {row} {kept} rising well found whole it =
    record_changes old rising well code row found kept whole it.id it.free it.form it.named new it.versions
