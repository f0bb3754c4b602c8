-- A version more, with its entries: its record has it behind the others, and no other record sees it.
use Rattle.std.proofs.Common.{◌≡◌, ◌≤◌, ℕ, ◌+◌, ℤ, true, false, cond, List, [], ◌∷◌, ◌++◌, map, filter, length, Option, Some, None, option_map, unwrap_or, refl, sym, ap, ap₂, subst, ◌∙◌, int_eq}
use Rattle.std.specs.List.{AllByRecursion}
use Rattle.sqlite_keyed.specs.Keyed.{IsKeyedBy, insert_by}
use Rattle.sqlite_keyed.specs.Lists.{sort_by}
use Rattle.lab_seal_versions.specs.declared.origins.Amendment.{Amendment}
use Rattle.lab_seal_versions.specs.declared.versions.Format.TheVariants.{Two}
use Rattle.lab_records_kept.specs.declared.records.Record.{Record}
use Rattle.lab_records_kept.specs.declared.records.Version.{Version}
use Rattle.lab_records_kept.specs.Digests.{previous_of}
use Rattle.lab_store_tables.specs.Rows.{VersionRow, EntryRow, SignatureRow, Tables, person_id, version_id, entry_id}
use Rattle.lab_store_tables.specs.Columns.{format_in, format_number}
use Rattle.lab_store_tables.specs.Meaning.{Leaf, entry_in, by_entry, entries_of, signature_in, by_signature, signatures_of, leaf_in, by_version, leaves_of, version_after}
use Rattle.lab_store_tables.specs.WellKept.{have_own_ids, have_parents, are_numbered_beside}
use Rattle.lab_store_tables.specs.Changes.{InTurn, AddsSignature, AddsVersion, version_row_of, put_version}
use Rattle.lab_store_tables.specs.Held.{AreRising}
use Rattle.lab_store_tables.specs.Family.{Versions, Entries}
use Rattle.lab_store_tables.proofs.ColumnsBack.{format_back}
use Rattle.lab_store_tables.proofs.LabLaws.{alike}
use Rattle.lab_store_tables.proofs.LevelLaws.{had_by}
use Rattle.lab_store_tables.proofs.NumberLaws.{numbered_last}
use Rattle.lab_store_tables.proofs.TrailLaws.{code_named}
use Rattle.lab_store_tables.proofs.KeptParts.{KeptParts}
use Rattle.lab_store_tables.proofs.OrderLaws.{not_there}
use Rattle.lab_store_tables.proofs.RowSet.{had_alike}
use Rattle.lab_store_tables.proofs.NextLaws.{no_rows}
use Rattle.lab_store_tables.proofs.EntriesInTurn.{AreEntered, entered_in_turn}

-- a version as its own rows would tell it
abbrev pub leaf_of : Version → Leaf
leaf_of version = record {
  number = version.origin.number;
  format = format_number version.format;
  opener = version.opener;
  opened = version.opened;
  reason = option_map (λ (amendment : Amendment). amendment.reason) version.origin.amendment;
  rows = version.rows;
  signatures = version.signatures;
}

-- ---- the version that a leaf comes to

abbrev amending : List ℕ → List ℕ → Amendment
amending previous reason = record { previous = previous; reason = reason }

-- where the version amends what stands before it, or nothing does
amended : (amendment : Option Amendment) (before : Option (List ℕ)) → option_map (λ (it : Amendment). it.previous) amendment ≡ before
    → option_map (λ (previous : List ℕ). amending previous (unwrap_or (option_map (λ (it : Amendment). it.reason) amendment) [])) before ≡ amendment
amended None None e = refl
amended None (Some digest) e = absurd cc
amended (Some it) None e = absurd cc
amended (Some it) (Some digest) e = λ i. Some (record it { previous = ap (λ (o : Option (List ℕ)). unwrap_or o digest) (sym e) i })

pub version_back : (cover : Record) (before : Option (List ℕ)) (version : Version) → version.format ≡ Two cover.form.form.approval
    → previous_of version ≡ before
    → version_after cover before (leaf_of version) ≡ version
version_back cover before version form previous = λ i. record version {
  format = (ap (λ f. format_in (format_number f) cover.form.form.approval) form ∙ format_back cover.form.form.approval ∙ sym form) i;
  origin = record version.origin { amendment = amended version.origin.amendment before previous i };
}

-- ---- what a version more asks of the tables

pub record MayOpen (t : Tables) : Type 0 where
  pub persons : have_own_ids person_id t.persons ≡ true
  pub versions : IsKeyedBy version_id t.versions
  pub entries : IsKeyedBy entry_id t.entries
  pub numbers : are_numbered_beside (λ (one other : VersionRow). int_eq other.kept one.kept) (λ (one : VersionRow). one.number) t.versions ≡ true
  pub entry_parents : have_parents (λ (one : EntryRow). Some one.version) version_id t.versions t.entries ≡ true
  pub signature_parents : have_parents (λ (one : SignatureRow). Some one.version) version_id t.versions t.signatures ≡ true

pub may_open : (t : Tables) → AreRising t → KeptParts t → MayOpen t
may_open t rising parts = record {
  persons = parts.ids.persons;
  versions = (rising.at Versions);
  entries = (rising.at Entries);
  numbers = parts.numbers.versions;
  entry_parents = parts.arrows.entries;
  signature_parents = parts.arrows.signatures;
}

-- ---- a version more

module _ (t : Tables) (may : MayOpen t) (lab kept : ℤ) (version : Version) (opened : Tables) (added : AddsVersion lab kept version t opened)
    (next : version.origin.number ≡ length (filter (λ (one : VersionRow). int_eq one.kept kept) t.versions) + 1) (unsigned : version.signatures ≡ []) where
  abbrev new : VersionRow
  new = version_row_of kept added.id added.opener version

  -- nothing led to it before
  no_entries : filter (λ (one : EntryRow). int_eq one.version added.id) t.entries ≡ []
  no_entries = no_rows (λ (one : EntryRow). one.version) version_id t.versions added.id added.free t.entries may.entry_parents

  no_signatures : signatures_of t added.id ≡ []
  no_signatures =
      ap (λ list. map (signature_in t) (sort_by by_signature list))
      (no_rows (λ (one : SignatureRow). one.version) version_id t.versions added.id added.free t.signatures may.signature_parents)

  pub entered : AreEntered added.id version.rows (put_version new t) added.entered
  entered =
      entered_in_turn lab added.id version.rows (put_version new t) added.entered may.entries may.persons
      (subst (λ list. AllByRecursion (λ (one : EntryRow). one.place ≤ length list) list) (sym no_entries) tt) added.rows

  -- the tables afterwards
  abbrev pub after : Tables
  after = record t { versions = insert_by version_id t.versions new; entries = entered.written }

  pub opened_is : opened ≡ after
  opened_is =
      let as_entered : opened ≡ added.entered = subst (λ list. InTurn (AddsSignature lab added.id) list added.entered opened) unsigned added.signatures in
      as_entered ∙ entered.made

  entries_of_its : (of : ℤ) → entries_of after of ≡ cond (int_eq of added.id) (entries_of t of ++ version.rows) (entries_of t of)
  entries_of_its = entered.has

  -- it stands there as it is
  new_leaf : leaf_in after new ≡ leaf_of version
  new_leaf = λ i. record (leaf_of version) {
    opener = code_named t may.persons lab version.opener added.opener added.named i;
    rows = (entries_of_its added.id ∙ ap (λ b. cond b (entries_of t added.id ++ version.rows) (entries_of t added.id)) (alike added.id added.id refl)
        ∙ ap (λ list. map (entry_in t) (sort_by by_entry list) ++ version.rows) no_entries) i;
    signatures = (no_signatures ∙ sym unsigned) i;
  }

  -- and every other as it was
  old_leaf : (one : VersionRow) → int_eq one.id added.id ≡ false → leaf_in after one ≡ leaf_in t one
  old_leaf one other = λ i. record (leaf_in t one) {
    rows = (entries_of_its one.id ∙ ap (λ b. cond b (entries_of t one.id ++ version.rows) (entries_of t one.id)) other) i;
  }

  old_leaves : (of : ℤ) → had_by (λ (one : VersionRow). one.kept) by_version (leaf_in after) t.versions of ≡ leaves_of t of
  old_leaves of =
      had_alike (λ (one : VersionRow). one.kept) by_version (leaf_in after) (leaf_in t) t.versions of
      (λ one has beside. old_leaf one (not_there version_id t.versions added.id one added.free has))

  pub leaves_more : (of : ℤ) → leaves_of after of ≡ cond (int_eq of kept) (leaves_of t of ++ leaf_of version ∷ []) (leaves_of t of)
  leaves_more of =
      numbered_last version_id (λ (one : VersionRow). one.kept) (λ (one : VersionRow). one.number) (leaf_in after) t.versions
      may.versions may.numbers new added.free next of
      ∙ ap₂ (λ had one. cond (int_eq of kept) (had ++ one ∷ []) had) (old_leaves of) new_leaf
