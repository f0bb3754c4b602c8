-- Entries that are added in turn to one version stand in it in turn, behind those that it has, and no other version sees one.
use Rattle.std.proofs.Common.{◌≡◌, ◌≤◌, ◌<◌, ℕ, ◌+◌, ℤ, Bool, true, false, cond, List, [], ◌∷◌, ◌++◌, filter, length, Some, refl, sym, ap, subst, ◌∙◌, int_eq, append_assoc, append-nil, arith}
use Rattle.sqlite_keyed.specs.Keyed.{IsKeyedBy}
use Rattle.sqlite_keyed.proofs.ListLemmas.{all_weaker}
use Rattle.sqlite_keyed.proofs.KeyedLemmas.{IsKeyedBy-insert_by}
use Rattle.lab_seal_versions.specs.declared.rows.EntryRow.{EntryRow as Entry}
use Rattle.lab_store_tables.specs.Rows.{EntryRow, Tables, person_id, entry_id}
use Rattle.lab_store_tables.specs.Meaning.{entry_in, entries_of}
use Rattle.lab_store_tables.specs.WellKept.{have_own_ids}
use Rattle.lab_store_tables.specs.Changes.{IsFree, InTurn, AddsEntry, person_named, entry_row_of, put_entry}
use Rattle.lab_store_tables.proofs.LabLaws.{alike}
use Rattle.lab_store_tables.proofs.TrailLaws.{code_named}
use Rattle.lab_store_tables.proofs.NextLaws.{next_last, AreWithin, within_next}

abbrev pub version_of : EntryRow → ℤ
version_of one = one.version

abbrev pub place_of : EntryRow → ℕ
place_of one = one.place

-- ---- one entry

module _ (t : Tables) (rise : IsKeyedBy entry_id t.entries) (own : have_own_ids person_id t.persons ≡ true)
    (lab version id : ℤ) (free : IsFree entry_id t.entries id) (entry : Entry) (person : ℤ) (named : person_named t lab entry.person ≡ Some person)
    (within : AreWithin entry_id version_of place_of version t.entries) where
  abbrev new : EntryRow
  new = entry_row_of t version id person entry

  abbrev mine : List EntryRow
  mine = filter (λ (one : EntryRow). int_eq one.version version) t.entries

  entry_back : entry_in t new ≡ entry
  entry_back = λ i. record entry { person = code_named t own lab entry.person person named i }

  entry_next : (of : ℤ) → entries_of (put_entry new t) of ≡ cond (int_eq of version) (entries_of t of ++ entry ∷ []) (entries_of t of)
  entry_next of =
      next_last entry_id version_of place_of (entry_in t) t.entries rise new free
      (all_weaker (λ (one : EntryRow). one.place ≤ length mine) (λ (one : EntryRow). one.place < length mine + 1) (λ one h. omega (arith, h)) mine within) of
      ∙ ap (λ one. cond (int_eq of version) (entries_of t of ++ one ∷ []) (entries_of t of)) entry_back

-- ---- and all of them

-- what stands in the version afterwards, and what of the tables has changed
pub record AreEntered (version : ℤ) (rows : List Entry) (t new : Tables) : Type 0 where
  pub written : List EntryRow
  pub made : new ≡ record t { entries = written }
  pub has : (of : ℤ) → entries_of (record t { entries = written }) of ≡ cond (int_eq of version) (entries_of t of ++ rows) (entries_of t of)

-- ---- what is added to a list or isn't, by whether it is meant

pub nothing_more : {A : Type 0} (b : Bool) (had : List A) → had ≡ cond b (had ++ []) had
nothing_more true had = sym (append-nil had)
nothing_more false had = refl

pub one_more : {A : Type 0} (b : Bool) (had now : List A) (one : A) (others : List A) → now ≡ cond b (had ++ one ∷ []) had
    → cond b (now ++ others) now ≡ cond b (had ++ one ∷ others) had
one_more true had now one others e = ap (λ l. l ++ others) e ∙ append_assoc had (one ∷ []) others
one_more false had now one others e = e

pub entered_in_turn : (lab version : ℤ) (rows : List Entry) (t new : Tables) → IsKeyedBy entry_id t.entries → have_own_ids person_id t.persons ≡ true
    → AreWithin entry_id version_of place_of version t.entries → InTurn (AddsEntry lab version) rows t new → AreEntered version rows t new
entered_in_turn lab version [] t after rise own within it = record {
  written = t.entries;
  made = it;
  has = λ of. nothing_more (int_eq of version) (entries_of t of);
}
entered_in_turn lab version (one ∷ others) t after rise own within it =
    let row = entry_row_of t version it.1.id it.1.person one in
    let more = entered_in_turn lab version others (put_entry row t) after (IsKeyedBy-insert_by entry_id t.entries row rise) own
    (within_next entry_id version_of place_of version t.entries rise row it.1.free (alike version version refl) refl within)
    (subst (λ m. InTurn (AddsEntry lab version) others m after) it.1.made it.2) in
    record {
      written = more.written;
      made = more.made;
      has = λ of. more.has of
          ∙ one_more (int_eq of version) (entries_of t of) (entries_of (put_entry row t) of) one others
          (entry_next t rise own lab version it.1.id it.1.free one it.1.person it.1.named within of);
    }
