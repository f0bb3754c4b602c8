-- A version that is opened: its record has it behind the others, chained to the last of them, and no other record or
-- laboratory sees it.
use Rattle.std.proofs.Common.{◌≡◌, ◌≤◌, ◌<◌, ℕ, ◌+◌, ℤ, Bool, true, false, ◌==◌, cond, List, [], ◌∷◌, ◌++◌, filter, find, length, Some, None, option_map, MatchOption, refl, sym, ap, subst, ◌∙◌, int_eq, arith}
use Rattle.std.specs.Ordering.{nat_cmp}
use Rattle.std.proofs.lemmas.Bool.{and_from, eq-eqb, eqb-true}
use Rattle.std.proofs.lemmas.List.{length-map}
use Rattle.sqlite_rules.specs.Lists.{Has}
use Rattle.sqlite_rules.proofs.ListLemmas.{has_filtered, has_kept}
use Rattle.sqlite_keyed.specs.Lists.{sort_by}
use Rattle.sqlite_keyed.proofs.ListLemmas.{all_weaker, all_map}
use Rattle.sqlite_keyed.proofs.KeyedLemmas.{same_int}
use Rattle.lab_records_kept.specs.declared.records.Record.{Record}
use Rattle.lab_records_kept.specs.declared.records.Version.{Version}
use Rattle.lab_records_kept.specs.declared.changes.Change.TheVariants.{VersionOpened}
use Rattle.lab_records_kept.specs.Lookups.{has_number, record_of}
use Rattle.lab_records_kept.specs.Changes.{change, in_record, opened_in, IsNewVersion, ChangesFit}
use Rattle.lab_records_keeper.specs.Worlds.{Changes}
use Rattle.lab_store_tables.specs.Rows.{LabRow, RecordRow, VersionRow, Tables}
use Rattle.lab_store_tables.specs.Meaning.{Leaf, lab_in, has_code, meaning, leaf_in, by_version, leaves_of, version_after, chained, cover_in, record_in, by_record, records_of}
use Rattle.lab_store_tables.specs.WellKept.{same_record, AreWellKept}
use Rattle.lab_store_tables.specs.Changes.{AddsVersion, record_named, set_current, Applies}
use Rattle.lab_store_tables.specs.Held.{AreRising}
use Rattle.lab_store_tables.proofs.ChainWords.{digest_at_end}
use Rattle.lab_store_tables.proofs.ChainLaws.{chained_more}
use Rattle.lab_store_tables.proofs.NumberLaws.{length_sorted}
use Rattle.lab_store_tables.proofs.LevelLaws.{had_by, unseen}
use Rattle.lab_store_tables.proofs.LabLaws.{alike}
use Rattle.lab_store_tables.proofs.KeptParts.{KeptParts, parts_kept}
use Rattle.lab_store_tables.proofs.OrderLaws.{found_shown, found_alone, has_sorted, sorted_has}
use Rattle.lab_store_tables.proofs.RowSet.{same_key_row}
use Rattle.lab_store_tables.proofs.LabSet.{fits_here, lab_changed}
use Rattle.lab_store_tables.proofs.RecordSet.{other_records, own_records, leaves_rise, rows_counted}
use Rattle.lab_store_tables.proofs.PartAdded.{record_there, lab_is, number_is}
use Rattle.lab_store_tables.proofs.ChainEnds.{amends_last, rises_to, stays_within}
use Rattle.lab_store_tables.proofs.VersionMore.{leaf_of, version_back, may_open, after, opened_is, leaves_more}

-- ---- the record of the number

-- a record of a laboratory is found by its number
pub numbered_found : (t : Tables) → KeptParts t → (code : List ℕ) (lab : ℤ) (number : ℕ) (kept : RecordRow) → record_named t lab number ≡ Some kept
    → record_of (records_of t code lab) number ≡ Some (record_in t code kept)
numbered_found t parts code lab number kept found =
    let mine = λ (one : RecordRow). int_eq one.lab lab in
    found_shown (has_number number) (record_in t code) (sort_by by_record (filter mine t.records))
    ∙ ap (option_map (record_in t code))
    (found_alone (λ (one : RecordRow). one.number == number) (sort_by by_record (filter mine t.records)) kept
    (has_sorted by_record (filter mine t.records) kept (has_kept mine t.records kept there (alike kept.lab lab (lab_is t lab number kept found))))
    (eq-eqb kept.number number (number_is t lab number kept found)) alone)
  where
    there : Has t.records kept
    there = record_there t lab number kept found

    alone : (one : RecordRow) → Has (sort_by by_record (filter (λ (x : RecordRow). int_eq x.lab lab) t.records)) one
        → (one.number == number) ≡ true → one ≡ kept
    alone one h e =
        let its = has_filtered (λ (x : RecordRow). int_eq x.lab lab) t.records one
        (sorted_has by_record (filter (λ (x : RecordRow). int_eq x.lab lab) t.records) one h) in
        let labs : one.lab ≡ kept.lab = same_int one.lab lab its.1 ∙ sym (lab_is t lab number kept found) in
        let numbers : one.number ≡ kept.number = eqb-true one.number number e ∙ sym (number_is t lab number kept found) in
        same_key_row same_record t.records one kept parts.keys.records its.0 there
        (and_from (int_eq one.lab kept.lab) (one.number == kept.number) (alike one.lab kept.lab labs) (eq-eqb one.number kept.number numbers))
        (and_from (int_eq kept.lab one.lab) (kept.number == one.number) (alike kept.lab one.lab (sym labs)) (eq-eqb kept.number one.number (sym numbers)))

-- ---- the version

module _ (t : Tables) (rising : AreRising t) (well : AreWellKept t) (code : List ℕ) (row : LabRow) (found : find (has_code code) t.labs ≡ Some row)
    (number : ℕ) (kept : RecordRow) (kept_found : record_named t row.id number ≡ Some kept) (version : Version) (opened : Tables)
    (added : AddsVersion row.id kept.id version t opened) (fits : IsNewVersion (lab_in t row) version (record_in t row.code kept)) where
  parts : KeptParts t
  parts = parts_kept t well

  abbrev its_leaves : List Leaf
  its_leaves = leaves_of t kept.id

  abbrev cover : Record
  cover = cover_in t kept

  -- the last version has the number of them all, so that this one has the next
  last_counted : fits.last.origin.number ≡ length (filter (λ (one : VersionRow). int_eq one.kept kept.id) t.versions)
  last_counted =
      let mine = filter (λ (one : VersionRow). int_eq one.kept kept.id) t.versions in
      let sorted = sort_by by_version mine in
      let many : length its_leaves ≡ length mine = length-map sorted (leaf_in t) ∙ length_sorted by_version mine in
      let least : 0 + length its_leaves ≤ fits.last.origin.number =
      rises_to row.code cover 0 None its_leaves fits.last fits.before (leaves_rise t parts kept.id)
      (all_map (λ (one : Leaf). 0 < one.number) (leaf_in t) sorted
      (all_weaker (λ (one : VersionRow). (1 ≤ one.number) × (one.number ≤ length mine)) (λ (one : VersionRow). 0 < one.number)
      (λ one h. let first = h.0 in omega (arith, first)) sorted (rows_counted t parts kept.id))) in
      let most : fits.last.origin.number ≤ length mine =
      stays_within row.code cover (length mine) None its_leaves fits.last fits.before
      (all_map (λ (one : Leaf). one.number ≤ length mine) (leaf_in t) sorted
      (all_weaker (λ (one : VersionRow). (1 ≤ one.number) × (one.number ≤ length mine)) (λ (one : VersionRow). one.number ≤ length mine)
      (λ one h. h.1) sorted (rows_counted t parts kept.id))) in
      omega (arith, many, least, most)

  next : version.origin.number ≡ length (filter (λ (one : VersionRow). int_eq one.kept kept.id) t.versions) + 1
  next = fits.next ∙ ap (λ n. n + 1) last_counted

  -- the tables with it, and with `current` at its number
  abbrev grown : Tables
  grown = after t (may_open t rising parts) row.id kept.id version opened added next fits.no_signatures

  abbrev now : Tables
  now = set_current kept.id version.origin.number grown

  more : (of : ℤ) → leaves_of grown of ≡ cond (int_eq of kept.id) (leaves_of t of ++ leaf_of version ∷ []) (leaves_of t of)
  more = leaves_more t (may_open t rising parts) row.id kept.id version opened added next fits.no_signatures

  -- ---- nobody reads `current`

  abbrev current_set : RecordRow → RecordRow
  current_set one = cond (int_eq one.id kept.id) (record one { current = version.origin.number }) one

  stays : (one : RecordRow) → (current_set one).lab ≡ one.lab
  stays one = go (int_eq one.id kept.id)
    where
      go : (b : Bool) → (cond b (record one { current = version.origin.number }) one).lab ≡ one.lab
      go true = refl
      go false = refl

  numbered : (one : RecordRow) → (current_set one).number ≡ one.number
  numbered one = go (int_eq one.id kept.id)
    where
      go : (b : Bool) → (cond b (record one { current = version.origin.number }) one).number ≡ one.number
      go true = refl
      go false = refl

  orders : (one other : RecordRow) → by_record (current_set one) (current_set other) ≡ by_record one other
  orders one other = λ i. nat_cmp (numbered one i) (numbered other i)

  unread : (of : List ℕ) (one : RecordRow) → record_in now of (current_set one) ≡ record_in now of one
  unread of one = go (int_eq one.id kept.id)
    where
      go : (b : Bool) → record_in now of (cond b (record one { current = version.origin.number }) one) ≡ record_in now of one
      go true = refl
      go false = refl

  records_are : (of : List ℕ) (lab : ℤ) → records_of now of lab ≡ had_by (λ (one : RecordRow). one.lab) by_record (record_in now of) t.records lab
  records_are of lab = unseen (λ (one : RecordRow). one.lab) by_record (record_in now of) current_set stays orders (unread of) t.records lab

  -- ---- its record, and the others

  back : version_after cover (digest_at_end row.code cover None its_leaves) (leaf_of version) ≡ version
  back =
      version_back cover (digest_at_end row.code cover None its_leaves) version fits.format
      (fits.previous ∙ sym (amends_last row.code cover None its_leaves fits.last fits.before))

  here : record_in now row.code kept ≡ opened_in version (record_in t row.code kept)
  here = λ i. record (cover_in t kept) {
    versions = (ap (chained row.code cover None)
        (more kept.id ∙ ap (λ b. cond b (its_leaves ++ leaf_of version ∷ []) its_leaves) (alike kept.id kept.id refl))
        ∙ chained_more row.code cover None its_leaves (leaf_of version) ∙ ap (λ last. chained row.code cover None its_leaves ++ last ∷ []) back) i;
  }

  elsewhere : (of : List ℕ) (one : RecordRow) → Has t.records one → int_eq one.id kept.id ≡ false → record_in now of one ≡ record_in t of one
  elsewhere of one has other = λ i. record (cover_in t one) {
    versions = chained of (cover_in t one) None ((more one.id ∙ ap (λ b. cond b (leaves_of t one.id ++ leaf_of version ∷ []) (leaves_of t one.id)) other) i);
  }

  -- ---- its laboratory, and the others

  abbrev there : Has t.records kept
  there = record_there t row.id number kept kept_found

  opened_here : had_by (λ (one : RecordRow). one.lab) by_record (record_in now row.code) t.records row.id
      ≡ in_record number (opened_in version) (records_of t row.code row.id)
  opened_here =
      subst (λ l. had_by (λ (one : RecordRow). one.lab) by_record (record_in now row.code) t.records l
      ≡ in_record number (opened_in version) (records_of t row.code l))
      (lab_is t row.id number kept kept_found)
      (own_records t parts kept there row.code (record_in now row.code) (elsewhere row.code) (opened_in version) here
      ∙ ap (λ n. in_record n (opened_in version) (records_of t row.code kept.lab)) (number_is t row.id number kept kept_found))

  its_lab : lab_in now row ≡ change (lab_in t row) (VersionOpened number version)
  its_lab = λ i. record (lab_in t row) { records = (records_are row.code row.id ∙ opened_here) i }

  other_labs : (lab : LabRow) → int_eq lab.id row.id ≡ false → lab_in now lab ≡ lab_in t lab
  other_labs lab other = λ i. record (lab_in t lab) {
    records = (records_are lab.code lab.id
        ∙ other_records t parts kept there lab.code (record_in now lab.code) (elsewhere lab.code) lab.id
        (ap (int_eq lab.id) (lab_is t row.id number kept kept_found) ∙ other)) i;
  }

  pub version_changes : Changes code (VersionOpened number version ∷ []) (meaning t) (meaning (set_current kept.id version.origin.number opened))
  version_changes =
      subst (λ tables. Changes code (VersionOpened number version ∷ []) (meaning t) (meaning (set_current kept.id version.origin.number tables)))
      (sym (opened_is t (may_open t rising parts) row.id kept.id version opened added next fits.no_signatures))
      (lab_changed t now refl parts.ids.labs code row found (VersionOpened number version) its_lab other_labs)

-- a version that is opened stands behind those of its record, and nowhere else
pub version_is_opened : {old new : Tables} {code : List ℕ} {number : ℕ} {version : Version} → AreRising old → AreWellKept old
    → ChangesFit (meaning old code) (VersionOpened number version ∷ []) → Applies code (VersionOpened number version) old new
    → Changes code (VersionOpened number version ∷ []) (meaning old) (meaning new)
version_is_opened {old} {new} {code} {number} {version} rising well fit it =
    subst (λ tables. Changes code (VersionOpened number version ∷ []) (meaning old) (meaning tables)) (sym it.made.current)
    (version_changes old rising well code it.lab it.found number it.made.kept it.made.found version it.made.opened it.made.added
    (subst (λ o. MatchOption o ⊥ (IsNewVersion (lab_in old it.lab) version))
    (numbered_found old (parts_kept old well) it.lab.code it.lab.id number it.made.kept it.made.found)
    (fits_here old code it.lab (VersionOpened number version) it.found fit)))
