-- A version more, with its entries and its signatures: its record has it behind the others, and no other record sees it.
use Rattle.std.proofs.Common.{◌≡◌, ◌≤◌, ◌<◌, ℕ, ◌+◌, ℤ, true, false, cond, List, [], ◌∷◌, ◌++◌, map, filter, length, is_some, refl, sym, ap, ap₂, subst, ◌∙◌, int_eq, arith}
use Rattle.std.specs.List.{AllByRecursion}
use Rattle.sqlite_keyed.specs.Keyed.{IsKeyedBy, has_key, insert_by}
use Rattle.sqlite_keyed.specs.Lists.{sort_by}
use Rattle.sqlite_keyed.proofs.ListLemmas.{all_weaker, filter_none}
use Rattle.sqlite_keyed.proofs.KeyedLemmas.{all-insert_by, IsKeyedBy-insert_by, has_key-insert_by, int_eq_apart}
use Rattle.lab_seal_versions.specs.declared.rows.EntryRow.{EntryRow as Entry}
use Rattle.lab_records_kept.specs.declared.records.Signature.{Signature}
use Rattle.lab_records_kept.specs.declared.records.Version.{Version}
use Rattle.lab_store_tables.specs.Rows.{VersionRow, EntryRow, SignatureRow, Tables, person_id, version_id, entry_id, signature_id}
use Rattle.lab_store_tables.specs.Meaning.{entry_in, by_entry, entries_of, signature_in, by_signature, signatures_of, leaf_in, by_version, leaves_of}
use Rattle.lab_store_tables.specs.WellKept.{have_own_ids}
use Rattle.lab_store_tables.specs.Changes.{InTurn, AddsEntry, AddsSignature, AddsVersion, entry_row_of, signature_row_of, version_row_of, put_version}
use Rattle.lab_store_tables.proofs.LabLaws.{alike}
use Rattle.lab_store_tables.proofs.LevelLaws.{had_by}
use Rattle.lab_store_tables.proofs.TrailLaws.{code_named}
use Rattle.lab_store_tables.proofs.PutRows.{new_found}
use Rattle.lab_store_tables.proofs.Turns.{turns_keep}
use Rattle.lab_store_tables.proofs.OrderLaws.{not_there}
use Rattle.lab_store_tables.proofs.RowSet.{had_alike}
use Rattle.lab_store_tables.proofs.NextLaws.{next_last, AreWithin, within_next}
use Rattle.lab_store_tables.proofs.EntriesInTurn.{AreEntered, entered_in_turn}
use Rattle.lab_store_tables.proofs.VersionMore.{leaf_of}
use Rattle.lab_move_write.proofs.SignaturesInTurn.{AreSigned, signed_in_turn}

abbrev pub kept_of : VersionRow → ℤ
kept_of one = one.kept

abbrev pub number_of : VersionRow → ℕ
number_of one = one.number

-- ---- what versions more ask of the tables, and leave them

-- each row leads to a version that is there
abbrev pub AreLed : {X : Type 0} → (X → ℤ) → List VersionRow → List X → Type 0
AreLed arrow versions rows = AllByRecursion (λ one. has_key version_id versions (arrow one) ≡ true) rows

abbrev pub entry_version : EntryRow → ℤ
entry_version one = one.version

abbrev pub signature_version : SignatureRow → ℤ
signature_version one = one.version

pub record AreSteady (t : Tables) : Type 0 where
  pub persons : have_own_ids person_id t.persons ≡ true
  pub versions : IsKeyedBy version_id t.versions
  pub entries : IsKeyedBy entry_id t.entries
  pub signatures : IsKeyedBy signature_id t.signatures
  pub entries_led : AreLed entry_version t.versions t.entries
  pub signatures_led : AreLed signature_version t.versions t.signatures

-- where no row leads to an id that isn't there
none_led : {X : Type 0} (arrow : X → ℤ) (versions : List VersionRow) (id : ℤ) → has_key version_id versions id ≡ false → (rows : List X)
    → AreLed arrow versions rows → filter (λ one. int_eq (arrow one) id) rows ≡ []
none_led arrow versions id free rows led =
    filter_none (λ one. int_eq (arrow one) id) rows
    (all_weaker (λ one. has_key version_id versions (arrow one) ≡ true) (λ one. int_eq (arrow one) id ≡ false)
    (λ one h. int_eq_apart (arrow one) id (λ same. let there : has_key version_id versions id ≡ true = subst (λ i. has_key version_id versions i ≡ true) same h in cc))
    rows led)

still_led : {X : Type 0} (arrow : X → ℤ) (versions : List VersionRow) (new : VersionRow) (rows : List X) → AreLed arrow versions rows
    → AreLed arrow (insert_by version_id versions new) rows
still_led arrow versions new rows led =
    all_weaker (λ one. has_key version_id versions (arrow one) ≡ true) (λ one. has_key version_id (insert_by version_id versions new) (arrow one) ≡ true)
    (λ one h. has_key-insert_by version_id versions new (arrow one) h) rows led

-- steady tables that have the version
pub record HaveVersion (id : ℤ) (t : Tables) : Type 0 where
  pub steady : AreSteady t
  pub there : has_key version_id t.versions id ≡ true

entry_leaves : (lab id : ℤ) (one : Entry) (old new : Tables) → AddsEntry lab id one old new → HaveVersion id old → HaveVersion id new
entry_leaves lab id one old new it held =
    let row = entry_row_of old id it.id it.person one in
    subst (HaveVersion id) (sym it.made) (record {
      steady = record {
        persons = held.steady.persons;
        versions = held.steady.versions;
        entries = IsKeyedBy-insert_by entry_id old.entries row held.steady.entries;
        signatures = held.steady.signatures;
        entries_led = all-insert_by entry_id (λ (x : EntryRow). has_key version_id old.versions x.version ≡ true) old.entries row held.there held.steady.entries_led;
        signatures_led = held.steady.signatures_led;
      };
      there = held.there;
    })

signature_leaves : (lab id : ℤ) (one : Signature) (old new : Tables) → AddsSignature lab id one old new → HaveVersion id old → HaveVersion id new
signature_leaves lab id one old new it held =
    let row = signature_row_of old id it.id it.person one in
    subst (HaveVersion id) (sym it.made) (record {
      steady = record {
        persons = held.steady.persons;
        versions = held.steady.versions;
        entries = held.steady.entries;
        signatures = IsKeyedBy-insert_by signature_id old.signatures row held.steady.signatures;
        entries_led = held.steady.entries_led;
        signatures_led = all-insert_by signature_id (λ (x : SignatureRow). has_key version_id old.versions x.version ≡ true) old.signatures row held.there held.steady.signatures_led;
      };
      there = held.there;
    })

-- ---- a version more

module _ (t : Tables) (steady : AreSteady t) (lab kept : ℤ) (within : AreWithin version_id kept_of number_of kept t.versions)
    (version : Version) (opened : Tables) (added : AddsVersion lab kept version t opened)
    (next : version.origin.number ≡ length (filter (λ (one : VersionRow). int_eq one.kept kept) t.versions) + 1) where
  abbrev new : VersionRow
  new = version_row_of kept added.id added.opener version

  abbrev start : Tables
  start = put_version new t

  -- nothing led to it before
  no_entries : filter (λ (one : EntryRow). int_eq one.version added.id) t.entries ≡ []
  no_entries = none_led entry_version t.versions added.id added.free t.entries steady.entries_led

  no_signatures : filter (λ (one : SignatureRow). int_eq one.version added.id) t.signatures ≡ []
  no_signatures = none_led signature_version t.versions added.id added.free t.signatures steady.signatures_led

  entered : AreEntered added.id version.rows start added.entered
  entered =
      entered_in_turn lab added.id version.rows start added.entered steady.entries steady.persons
      (subst (λ list. AllByRecursion (λ (one : EntryRow). one.place ≤ length list) list) (sym no_entries) tt) added.rows

  abbrev with_rows : Tables
  with_rows = record start { entries = entered.written }

  signed : AreSigned added.id version.signatures with_rows opened
  signed =
      signed_in_turn lab added.id version.signatures with_rows opened steady.signatures steady.persons
      (subst (λ list. AllByRecursion (λ (one : SignatureRow). one.place ≤ length list) list) (sym no_signatures) tt)
      (subst (λ u. InTurn (AddsSignature lab added.id) version.signatures u opened) entered.made added.signatures)

  -- the tables afterwards
  abbrev after : Tables
  after = record with_rows { signatures = signed.written }

  opened_is : opened ≡ after
  opened_is = signed.made

  -- it stands there as it is
  new_leaf : leaf_in after new ≡ leaf_of version
  new_leaf = λ i. record (leaf_of version) {
    opener = code_named t steady.persons lab version.opener added.opener added.named i;
    rows = (entered.has added.id ∙ ap (λ b. cond b (entries_of t added.id ++ version.rows) (entries_of t added.id)) (alike added.id added.id refl)
        ∙ ap (λ list. map (entry_in t) (sort_by by_entry list) ++ version.rows) no_entries) i;
    signatures = (signed.has added.id ∙ ap (λ b. cond b (signatures_of t added.id ++ version.signatures) (signatures_of t added.id)) (alike added.id added.id refl)
        ∙ ap (λ list. map (signature_in t) (sort_by by_signature list) ++ version.signatures) no_signatures) i;
  }

  -- and every other as it was
  old_leaf : (one : VersionRow) → int_eq one.id added.id ≡ false → leaf_in after one ≡ leaf_in t one
  old_leaf one other = λ i. record (leaf_in t one) {
    rows = (entered.has one.id ∙ ap (λ b. cond b (entries_of t one.id ++ version.rows) (entries_of t one.id)) other) i;
    signatures = (signed.has one.id ∙ ap (λ b. cond b (signatures_of t one.id ++ version.signatures) (signatures_of t one.id)) other) i;
  }

  old_leaves : (of : ℤ) → had_by kept_of by_version (leaf_in after) t.versions of ≡ leaves_of t of
  old_leaves of =
      had_alike kept_of by_version (leaf_in after) (leaf_in t) t.versions of
      (λ one has beside. old_leaf one (not_there version_id t.versions added.id one added.free has))

  abbrev mine : List VersionRow
  mine = filter (λ (one : VersionRow). int_eq one.kept kept) t.versions

  leaves_after : (of : ℤ) → leaves_of after of ≡ cond (int_eq of kept) (leaves_of t of ++ leaf_of version ∷ []) (leaves_of t of)
  leaves_after of =
      next_last version_id kept_of number_of (leaf_in after) t.versions steady.versions new added.free
      (all_weaker (λ (one : VersionRow). one.number ≤ length mine) (λ (one : VersionRow). one.number < version.origin.number) (λ one h. omega (arith, h, next)) mine within) of
      ∙ ap₂ (λ had one. cond (int_eq of kept) (had ++ one ∷ []) had) (old_leaves of) new_leaf

  pub leaves_more : (of : ℤ) → leaves_of opened of ≡ cond (int_eq of kept) (leaves_of t of ++ leaf_of version ∷ []) (leaves_of t of)
  leaves_more of = ap (λ (u : Tables). leaves_of u of) opened_is ∙ leaves_after of

  pub rest_is : opened ≡ record t { versions = opened.versions; entries = opened.entries; signatures = opened.signatures }
  rest_is = subst (λ (u : Tables). u ≡ record t { versions = u.versions; entries = u.entries; signatures = u.signatures }) (sym opened_is) refl

  pub versions_are : opened.versions ≡ insert_by version_id t.versions new
  versions_are = ap (λ (u : Tables). u.versions) opened_is

  pub within_more : AreWithin version_id kept_of number_of kept opened.versions
  within_more =
      subst (AreWithin version_id kept_of number_of kept) (sym versions_are)
      (within_next version_id kept_of number_of kept t.versions steady.versions new added.free (alike kept kept refl) next within)

  start_steady : HaveVersion added.id start
  start_steady = record {
    steady = record {
      persons = steady.persons;
      versions = IsKeyedBy-insert_by version_id t.versions new steady.versions;
      entries = steady.entries;
      signatures = steady.signatures;
      entries_led = still_led entry_version t.versions new t.entries steady.entries_led;
      signatures_led = still_led signature_version t.versions new t.signatures steady.signatures_led;
    };
    there = ap is_some (new_found version_id new t.versions added.free);
  }

  pub steady_more : AreSteady opened
  steady_more =
      (turns_keep (AddsSignature lab added.id) (HaveVersion added.id) (signature_leaves lab added.id) version.signatures added.entered opened added.signatures
      (turns_keep (AddsEntry lab added.id) (HaveVersion added.id) (entry_leaves lab added.id) version.rows start added.entered added.rows start_steady)).steady
